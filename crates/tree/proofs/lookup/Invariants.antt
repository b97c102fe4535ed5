-- The invariant: what the walk from the node at hand says, with d levels below it, is what the walk from the root says. d falls.
use mathlib.Core.Path.{◌≡◌}
use Prim.Native.Nat.{◌≤◌}
use Rattle.tree_image.specs.Walk.{walk_from, tree_said}
use Rattle.tree.proofs.lookup.Given as goal

abbrev pub invariant-loop-at : goal.invariant-loop-at
invariant-loop-at l = (l.d ≤ 8) × (walk_from l.d l.words l.hops l.addr l.at l.best ≡ tree_said l.words l.hops l.addr)

abbrev pub decreases-loop-at : goal.decreases-loop-at
decreases-loop-at l = l.d
