use Rattle.tree_node.proofs.Scans.{none-counted, count-on, count-off, all-counted}
use native.Mathlib.Omega.{arith}
use Rattle.tree_node.proofs.count.count_level.Goals.{then-fresh, else-fresh}
use Rattle.tree_node.proofs.count.count_level.Goals as goal

pub loop-k-init : goal.loop-k-init
loop-k-init c = (omega arith, omega arith, none-counted _)

pub loop-k-preserved : goal.loop-k-preserved
loop-k-preserved c = elim c.if-fresh.branch [
  | then-fresh w ↦ rw w.nodes-is (omega arith, omega arith, count-on _ _ _ c.loop-k.invariant.2 _ c.fresh.ensures w.if-fresh.true)
  | else-fresh w ↦ rw w.nodes-is (omega arith, omega arith, count-off _ _ _ c.loop-k.invariant.2 _ c.fresh.ensures w.if-fresh.false)
]

pub returns : goal.returns
returns c = all-counted _ _ _ _ c.loop-k.invariant.0 c.loop-k-test.false c.loop-k.invariant.1 c.loop-k.invariant.2
