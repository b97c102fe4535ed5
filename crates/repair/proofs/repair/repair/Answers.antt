-- `repair::repair::repair`. The sizes are checked and what is kept is weighed before anything is written, and so are the cells counted; then what is
-- kept is loaded.
use mathlib.Core.Path.{◌∙◌}
use Prim.Native.Nat.{ℕ}
use native.Mathlib.Omega.{arith}
use lib.ListN.{length-replicate}
use Rattle.repair.proofs.Repairing.{repair-refuses, input-fits, input-inside, input-room, counts-ask, numbers_fit, repair-done}
use Rattle.repair.proofs.repair.repair.Goals as goal

pub judge-requires : goal.judge-requires
judge-requires c = length-replicate {A = ℕ} 32768 0

pub returns-in-Err : goal.returns-in-Err
returns-in-Err c = repair-refuses _ _ _ _ c.in-Err.ensures.says c.number.ensures

pub overflow_mul-kept : goal.overflow_mul-kept
overflow_mul-kept c = omega (arith, input-fits _ _ _ _ c.in-Ok.ensures)

pub slice_bounds-input-end : goal.slice_bounds-input-end
slice_bounds-input-end c = input-room _ _ _ _ c.in-Ok.ensures

pub slice_bounds-kept-end : goal.slice_bounds-kept-end
slice_bounds-kept-end c =
    input-inside _ _ _ _ c.in-Ok.ensures (c.judge.auto.kept ∙ length-replicate {A = ℕ} 32768 0)

pub count_cells-d-requires : goal.count_cells-d-requires
count_cells-d-requires c = counts-ask _ _ _ _ c.in-Ok.ensures

pub done-requires : goal.done-requires
done-requires c = numbers_fit _ _ _ _ c.in-Ok.ensures _ c.count_cells-d.ensures

pub returns : goal.returns
returns c =
    repair-done _ _ _ _ c.in-Ok.ensures _ c.count_cells-d.ensures _ c.done.ensures _ _ c.unwrap_or.ensures _ c.load-loaded.ensures
