-- A prefix lies in the node at depth len / 4 at an internal bit, so the place that `place` works out is that bit.
use Rattle.tree_theory.proofs.Places.{bit-worked}
use Rattle.tree_route.proofs.path.own_bit.Goals as goal

pub returns : goal.returns
returns c = bit-worked _ _ _ c.requires c.node_bit.ensures.0
