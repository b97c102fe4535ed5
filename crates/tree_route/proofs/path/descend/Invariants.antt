-- The invariant: the node at hand is the one of its depth on the path.
use Prim.Native.Nat.{◌≤◌}
use Rattle.tree_theory.proofs.Ways.{WayDown}
use Rattle.tree_route.proofs.path.descend.Given as goal

abbrev pub invariant-loop-depth : goal.invariant-loop-depth
invariant-loop-depth l = WayDown l.words l.n l.addr l.at l.depth × (l.depth ≤ l.deep)
