-- A hop stands at the place, so it is lent; one store there is the image of the routes with the other hop.
use Rattle.tree_route.proofs.Replaces.{replace-room, replace-done}
use Rattle.tree_route.proofs.change.replace.Goals as goal

pub bounds-hops-y : goal.bounds-hops-y
bounds-hops-y c = let pre = c.requires in replace-room pre.0 _ pre.1 pre.2 _ c.hop_place-y.ensures.0

pub returns : goal.returns
returns c = let pre = c.requires in replace-done pre.0 _ pre.1 pre.2 _ c.hop_place-y.ensures.0
