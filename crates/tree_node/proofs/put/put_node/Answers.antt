-- `tree_node::put::put_node`. The three words of node x.
use native.Mathlib.Omega.{arith}
use lib.ListN.{length-set}
use Rattle.tree_node.proofs.put.put_node.Goals as goal

pub bounds-words-x-2 : goal.bounds-words-x-2
bounds-words-x-2 c = simp length-set (omega arith)

pub bounds-words-x-3 : goal.bounds-words-x-3
bounds-words-x-3 c = simp length-set (omega arith)
