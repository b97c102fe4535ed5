-- The invariant: whichever routes the arrays held with the path of the prefix after its hop was taken, they hold with that path down to depth m.
-- The depth falls; where the node at hand has a bit, or is the root, the path stands by the routes alone.
use mathlib.Core.List.{List}
use mathlib.Core.Path.{◌≡◌}
use lib.ListN.{length}
use Rattle.routes.specs.declared.Route.{Route}
use Rattle.tree_theory.proofs.Midways.{Midway}
use Rattle.tree_route.proofs.change.remove.Given as goal

abbrev pub invariant-loop-m : goal.invariant-loop-m
invariant-loop-m l =
    ((rs : List Route) → Midway rs l.addr l.initial.m l.initial.words l.hops l.initial.nodes l.k → Midway rs l.addr l.m l.words l.hops l.nodes l.k) × (length l.words ≡ length l.initial.words)

abbrev pub decreases-loop-m : goal.decreases-loop-m
decreases-loop-m l = l.m
