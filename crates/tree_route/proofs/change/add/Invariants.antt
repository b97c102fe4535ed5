-- The invariant: the arrays hold the routes, and the path of the prefix down to depth m, whose last node is the one at hand.
use Rattle.tree_route.proofs.Adds.{Grown}
use Rattle.tree_route.proofs.change.add.Given as goal

abbrev pub invariant-loop-m : goal.invariant-loop-m
invariant-loop-m l = Grown l.initial.words l.hops l.n l.k l.from.depth l.addr l.len l.words l.m l.at l.nodes
