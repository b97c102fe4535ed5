-- `tree_fill::fill_image`. The whole image, node by node.
use mathlib.Core.Path.{◌≡◌}
use Prim.Native.Nat.{◌-◌}
use lib.ListN.{length}
use Rattle.tree_fill.specs.Fill.{State, nodes_in}
use Rattle.tree_fill.proofs.fill_image.Given as goal

abbrev pub invariant-loop-i : goal.invariant-loop-i
invariant-loop-i l =
    State l.list l.words l.hops l.i l.used.nodes l.used.hops × (length l.words ≡ length l.initial.words) × (length l.hops ≡ length l.initial.hops)

abbrev pub decreases-loop-i : goal.decreases-loop-i
decreases-loop-i l = length (nodes_in l.list) - l.i
