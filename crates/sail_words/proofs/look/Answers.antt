-- `sail_words::look`: why it is refused, and else the walk's word.
use Rattle.std.specs.Prelude.{refl}
use Rattle.std.proofs.Common.{◌∙◌}
use Rattle.refusals.proofs.Numbers.{number-above_0}
use Rattle.sail_words.proofs.Laws.{look-off, look_is}
use Rattle.sail_words.proofs.look.Goals as goal

pub returns-in-Err : goal.returns-in-Err
returns-in-Err c = look-off _ _ _ _ c.in-Err.ensures _ (c.from.ensures ∙ c.number.ensures) (number-above_0 _)

pub returns : goal.returns
returns c = look_is _ _ _ _ c.in_default.ensures refl _ _ c.walk.ensures c.from-2.ensures
