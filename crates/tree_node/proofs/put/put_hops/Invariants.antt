-- `tree_node::put::put_hops`. The hops of a node, each at its place: the hop base and the ones below its bit.
use Prim.Native.Nat.{◌≤◌}
use Rattle.tree_node.proofs.Hops.{HopsTo}
use Rattle.tree_node.proofs.put.put_hops.Given as goal

abbrev pub invariant-loop-k : goal.invariant-loop-k
invariant-loop-k l = (l.a ≤ l.k) × (l.k ≤ l.e) × HopsTo l.list l.m l.a l.base l.k l.initial.hops l.hops
