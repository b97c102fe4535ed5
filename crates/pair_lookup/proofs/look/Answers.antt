-- `pair_lookup::look`. The sizes, and then the party's walk from its own first cells.
use Rattle.std.specs.Prelude.{refl}
use Rattle.std.proofs.Common.{◌∙◌}
use Rattle.refusals.proofs.Numbers.{number-above_0, number-below_256}
use Rattle.pair_lookup.proofs.Looks.{look-not, second-celled, first-celled, look-second, look-first}
use Rattle.pair_lookup.proofs.look.Goals as goal

pub returns-in-Err : goal.returns-in-Err
returns-in-Err c = look-not _ _ _ _ c.in-Err.ensures _ (number-below_256 _) (number-above_0 _) _ (c.from.ensures ∙ c.number.ensures)

pub walk-requires : goal.walk-requires
walk-requires c = second-celled _ _ _ c.in_default.ensures refl

pub returns-then-guest : goal.returns-then-guest
returns-then-guest c = look-second _ _ _ _ c.in_default.ensures refl _ _ c.if-guest.true c.walk.ensures

pub walk-requires-2 : goal.walk-requires-2
walk-requires-2 c = first-celled _ _ _ c.in_default.ensures refl

pub returns : goal.returns
returns c = look-first _ _ _ _ c.in_default.ensures refl _ _ c.if-guest.false c.walk-2.ensures
