-- `tree_node::run::with_bit`. A word with one more bit set, or set already.
use Rattle.tree_node.proofs.Marks.{with-bit}
use Rattle.tree_node.proofs.run.with_bit.Goals as goal

pub returns : goal.returns
returns c = search with-bit
