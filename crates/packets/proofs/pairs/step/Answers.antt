-- `packets::pairs::step`: the header is judged, and if nothing is wrong with it, the step ends by the lookup's word.
use mathlib.Core.Path.{refl, ◌∙◌}
use Rattle.refusals.proofs.Numbers.{number-above_0}
use Rattle.header.proofs.Faults.{fault-none, fine-lowers}
use Rattle.header.proofs.Steps.{step-refused, step-looked}
use Rattle.packets.proofs.pairs.step.Goals as goal

pub returns-in-Err : goal.returns-in-Err
returns-in-Err c = step-refused _ _ _ c.in-Err.ensures (number-above_0 _) _ (c.from.ensures ∙ c.number.ensures)

pub destination-addr-requires : goal.destination-addr-requires
destination-addr-requires c = (fault-none _ _ c.in_default.ensures refl).room

pub finish-requires : goal.finish-requires
finish-requires c = fine-lowers (fault-none _ _ c.in_default.ensures refl)

pub returns : goal.returns
returns c =
    step-looked _ _ _ c.in_default.ensures refl _ c.destination-addr.ensures _ c.look-w.ensures _
    c.finish.ensures
