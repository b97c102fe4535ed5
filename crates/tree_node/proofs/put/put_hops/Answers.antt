use native.Mathlib.Omega.{arith}
use Rattle.tree_node.proofs.Words.{its-low, its-high}
use Rattle.tree_node.proofs.Hops.{hops-none, hops-skip, hop-room, hops-more, hops-done}
use Rattle.tree_node.proofs.put.put_hops.Goals.{then-len-m, else-len-m}
use Rattle.tree_node.proofs.put.put_hops.Goals as goal

pub loop-k-init : goal.loop-k-init
loop-k-init c = (omega arith, c.requires.node.run.first, hops-none _ _ _ _ _)

pub node_bit-requires : goal.node_bit-requires
node_bit-requires c = search (its-low, its-high)

pub bounds-hops-base : goal.bounds-hops-base
bounds-hops-base c = search hop-room

pub loop-k-preserved : goal.loop-k-preserved
loop-k-preserved c = elim c.if-len-m.branch [
  | then-len-m w ↦ rw w.hops-is (omega arith, omega arith, search hops-more)
  | else-len-m w ↦ rw w.hops-is (omega arith, omega arith, search hops-skip)
]

pub returns : goal.returns
returns c = search hops-done
