-- `tree_node::count::count_nodes`. The nodes of all depths.
use mathlib.Core.Path.{◌≡◌}
use Prim.Native.Nat.{◌+◌, ◌*◌, ◌≤◌}
use Rattle.tree_node.specs.Count.{nodes_to}
use Rattle.tree_node.proofs.count.count_nodes.Given as goal

abbrev pub invariant-loop-m : goal.invariant-loop-m
invariant-loop-m l = (l.m ≤ 8) × (l.nodes ≤ 1 + l.m * 4096) × (l.nodes ≡ nodes_to l.list l.n l.m)
