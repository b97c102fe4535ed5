-- `sail_counts::tick::stepped`. One more, or one less.
use native.Mathlib.Omega.{arith}
use Rattle.sail_counts.proofs.Steps.{step-up, step_down}
use Rattle.sail_counts.proofs.tick.stepped.Goals as goal

pub overflow_add-result : goal.overflow_add-result
overflow_add-result c = let l = c.requires.few c.if-up.true in record { fits = omega arith }

pub returns-then-up : goal.returns-then-up
returns-then-up c = step-up _ _ c.if-up.true

pub overflow_sub-result : goal.overflow_sub-result
overflow_sub-result c = c.requires.some c.if-up.false

pub returns : goal.returns
returns c = step_down _ _ c.if-up.false
