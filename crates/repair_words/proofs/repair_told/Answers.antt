-- The sizes and the words are judged first; then it is what the repair says and leaves.
use mathlib.Core.Path.{refl, sym, ◌∙◌}
use Rattle.std.specs.Prelude.{Ok, Err}
use Rattle.refusals.proofs.Numbers.{number-above_0}
use Rattle.packing_repairs.proofs.Putting.{fault-none, fault_of_words}
use Rattle.repair_words.proofs.RepairReturns.{repair-off, repair-on}
use Rattle.repair_words.proofs.repair_told.Goals as goal

pub returns-in-Err : goal.returns-in-Err
returns-in-Err c =
    repair-off _ _ _ _ _ c.check_sizes.ensures (fault_of_words _ _ (Err _) _ c.in-Err.ensures) (number-above_0 _) _ (c.from.ensures ∙ c.number.ensures)

pub tell-requires : goal.tell-requires
tell-requires c = (fault-none _ _ (sym (fault_of_words _ _ (Ok _) _ c.in_default.ensures))).1

pub returns : goal.returns
returns c =
    repair-on _ _ _ _ _ c.check_sizes.ensures (fault_of_words _ _ (Ok _) _ c.in_default.ensures) refl
    _ _ _ c.repair-c.ensures _ c.tell.ensures _ c.repaired.ensures
