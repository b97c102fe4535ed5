-- `plan::paint::paint_one`. Paints the route of a word over the block of cells of level p that starts at base.
use native.Mathlib.Omega.{arith}
use Prim.Native.Nat.{◌/◌, ◌-◌}
use lib.Pow.{shr_le}
use Rattle.plan.proofs.Ranges.{painted-by}
use Rattle.plan.proofs.paint.paint_one.Goals as goal

pub overflow_add-end : goal.overflow_add-end
overflow_add-end c = omega (arith, shr_le (c.args.w / 4294967296) (32 - c.args.p))

pub returns : goal.returns
returns c = search painted-by
