use native.Mathlib.Omega.{arith}
use Rattle.repair_leaves.proofs.Counts.{counting-none, counting-hit, counting-miss, counting-all, zero-off, zero_same}
use Rattle.repair_leaves.proofs.off_zero.Goals.{then-x-ne0, else-x-ne0}
use Rattle.repair_leaves.proofs.off_zero.Goals as goal

pub loop-x-init : goal.loop-x-init
loop-x-init c = counting-none

pub loop-x-preserved : goal.loop-x-preserved
loop-x-preserved c = elim c.if-x-ne0.branch [
  | then-x-ne0 w ↦ rw w.m-is (counting-hit c.loop-x.invariant (omega arith) (zero-off _ w.if-x-ne0.true))
  | else-x-ne0 w ↦ rw w.m-is (counting-miss c.loop-x.invariant (omega arith) (zero_same _ w.if-x-ne0.false))
]

pub returns : goal.returns
returns c = counting-all c.loop-x.invariant (omega arith)
