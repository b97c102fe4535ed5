use native.Mathlib.Omega.{arith}
use Rattle.repair_leaves.proofs.Counts.{counting-none, counting-hit, counting-miss, counting-all, plan-off, plan-same, plan-node}
use Rattle.repair_leaves.proofs.off_plan.Goals.{then-x-w+then-w-ne0, then-x-w+else-w-ne0, else-x-w}
use Rattle.repair_leaves.proofs.off_plan.Goals as goal

pub loop-j-init : goal.loop-j-init
loop-j-init c = counting-none

pub loop-j-preserved : goal.loop-j-preserved
loop-j-preserved c = elim c.if-x-w.branch [
  | then-x-w+then-w-ne0 w ↦ rw w.m-is (counting-hit c.loop-j.invariant (omega arith) (plan-off _ _ w.if-w-ne0.true w.if-x-w.true))
  | then-x-w+else-w-ne0 w ↦ rw w.m-is (counting-miss c.loop-j.invariant (omega arith) (plan-node _ _ w.if-w-ne0.false))
  | else-x-w w ↦ rw w.m-is (counting-miss c.loop-j.invariant (omega arith) (plan-same _ _ w.if-x-w.false))
]

pub returns : goal.returns
returns c = counting-all c.loop-j.invariant (omega arith)
