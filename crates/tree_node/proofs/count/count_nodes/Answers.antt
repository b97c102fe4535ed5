use native.Mathlib.Omega.{arith}
use Rattle.tree_node.proofs.Scans.{root-counted, depth-counted, depths-counted}
use Rattle.tree_node.proofs.count.count_nodes.Goals as goal

pub loop-m-init : goal.loop-m-init
loop-m-init c = (omega arith, omega arith, root-counted _ _)

pub loop-m-preserved : goal.loop-m-preserved
loop-m-preserved c = (omega arith, omega arith, depth-counted _ _ _ _ _ c.loop-m.invariant.2 c.count_level-nodes.ensures.0)

pub returns : goal.returns
returns c = depths-counted _ _ _ _ c.loop-m.invariant.0 c.loop-m-test.false c.loop-m.invariant.1 c.loop-m.invariant.2
