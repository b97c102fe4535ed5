use native.Mathlib.Omega.{arith}
use Rattle.tree_node.proofs.Words.{its-low, its-high, marks-none, marks-more, marks-word}
use Rattle.tree_node.proofs.run.node_word.Goals as goal

pub loop-k-init : goal.loop-k-init
loop-k-init c = (omega arith, c.requires.run.first, marks-none _ _ _)

pub node_bit-requires : goal.node_bit-requires
node_bit-requires c = search (its-low, its-high)

pub loop-k-preserved : goal.loop-k-preserved
loop-k-preserved c = (
  omega arith,
  omega arith,
  search marks-more,
)

pub returns : goal.returns
returns c = search marks-word
