-- `tree_node::put::put_kids`. The children of a node, each at its place: t and the extending ones below its bit.
use Prim.Native.Nat.{◌-◌, ◌≤◌}
use Rattle.tree_node.proofs.Kids.{KidsTo}
use Rattle.tree_node.proofs.put.put_kids.Given as goal

abbrev pub invariant-loop-k : goal.invariant-loop-k
invariant-loop-k l = (l.a ≤ l.k) × (l.k ≤ l.e) × KidsTo l.list l.m l.a l.e l.t l.k l.initial.words l.words

abbrev pub decreases-loop-k : goal.decreases-loop-k
decreases-loop-k l = l.e - l.k
