-- `runs::run::run`: the part that the check found, or the empty part at the start.
use mathlib.Core.Path.{refl}
use native.Mathlib.Omega.{arith}
use Rattle.runs.proofs.Runs.{run-told, run-bytes, not-told, is-run, no_run}
use Rattle.runs.proofs.run.run.Goals as goal

pub returns-in_default : goal.returns-in_default
returns-in_default c = no_run _ _ _ _ (not-told _ _ _ _ c.run_check.ensures c.in_default.not-Ok) refl refl

pub overflow_mul-a : goal.overflow_mul-a
overflow_mul-a c = omega (arith, run-bytes _ _ _ _ c.in-Ok.ensures)

pub overflow_mul-e : goal.overflow_mul-e
overflow_mul-e c = omega (arith, run-bytes _ _ _ _ c.in-Ok.ensures)

pub overflow_add-e : goal.overflow_add-e
overflow_add-e c = omega (arith, run-bytes _ _ _ _ c.in-Ok.ensures)

pub slice_bounds-result-end-2 : goal.slice_bounds-result-end-2
slice_bounds-result-end-2 c = omega (arith, run-bytes _ _ _ _ c.in-Ok.ensures)

pub returns : goal.returns
returns c = is-run _ _ _ _ _ _ (run-told _ _ _ _ c.in-Ok.ensures) _ _ refl refl (omega arith) (omega arith)
