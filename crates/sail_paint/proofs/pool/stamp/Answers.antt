use mathlib.Core.Path.{◌≡◌, ap}
use native.Mathlib.Omega.{arith}
use lib.ListN.{length}
use Rattle.sail_paint.proofs.Stamping.{length-stamped, stamp-none, stamp-free, stamp-room, stamp-more}
use Rattle.sail_paint.proofs.pool.stamp.Goals.{then-o-ne0, else-o-ne0}
use Rattle.sail_paint.proofs.pool.stamp.Goals as goal

pub loop-c-init : goal.loop-c-init
loop-c-init c = search stamp-none

pub bounds-cells-o : goal.bounds-cells-o
bounds-cells-o c =
    simp (ap length c.loop-c.invariant, length-stamped)
    (stamp-room _ _ c.requires _ _ c.loop-c-test.true c.owner_at-o.ensures c.if-o-ne0.true)

pub loop-c-preserved : goal.loop-c-preserved
loop-c-preserved c = elim c.if-o-ne0.branch [
  | then-o-ne0 w ↦ rw w.cells-is (stamp-more _ _ c.requires _ _ c.loop-c-test.true c.owner_at-o.ensures _ w.if-o-ne0.true c.loop-c.invariant)
  | else-o-ne0 w ↦ rw w.cells-is (stamp-free _ _ c.requires _ _ c.loop-c-test.true c.owner_at-o.ensures _ w.if-o-ne0.false c.loop-c.invariant)
]

pub returns : goal.returns
returns c = let l = c.loop-c in let e : l.c ≡ length c.args.own.now = omega arith in rw e at l.invariant
