-- `tree_node::count::count_level`. The nodes of depth m, 1 or more.
use mathlib.Core.Path.{◌≡◌}
use Prim.Native.Nat.{◌≤◌}
use Rattle.bits.specs.Count.{count}
use Rattle.tree_node.specs.Count.{fresh_at}
use Rattle.tree_node.proofs.count.count_level.Given as goal

abbrev pub invariant-loop-k : goal.invariant-loop-k
invariant-loop-k l = (l.k ≤ l.n) × (l.nodes ≤ l.k) × (l.nodes ≡ count (fresh_at l.list l.m) l.k)
