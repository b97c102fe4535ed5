-- `tree_node::run::node_word`. The bits of a node: those at which the records of its run lie.
use Prim.Native.Nat.{◌≤◌}
use Rattle.tree_node.proofs.Words.{MarksTo}
use Rattle.tree_node.proofs.run.node_word.Given as goal

abbrev pub invariant-loop-k : goal.invariant-loop-k
invariant-loop-k l = (l.a ≤ l.k) × (l.k ≤ l.e) × MarksTo l.list l.m l.a l.k l.word
