-- The invariant: the way has not led past the nodes in use. Where it ends, it has not ended before them either.
use Rattle.std.proofs.Common.{◌≡◌, ◌-◌, ◌/◌, length}
use Rattle.tree_formed.proofs.Neighbours.{OnTheWay}
use Rattle.tree_bases.proofs.nodes_in.Given as goal

abbrev pub invariant-loop-at : goal.invariant-loop-at
invariant-loop-at l = (l.lent ≡ length l.words / 3) × OnTheWay l.words l.at

abbrev pub decreases-loop-at : goal.decreases-loop-at
decreases-loop-at l = l.lent - l.at
