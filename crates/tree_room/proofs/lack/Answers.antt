-- Each test is the reason of its answer, and both that fail are the room.
use Rattle.tree_room.specs.Lack.{short_nodes, short_hops, has_room}
use Rattle.tree_room.proofs.lack.Goals as goal

pub returns-then-words-nodes : goal.returns-then-words-nodes
returns-then-words-nodes c = short_nodes c.if-words-nodes.true

pub returns-then-hops-routes : goal.returns-then-hops-routes
returns-then-hops-routes c = short_hops c.if-words-nodes.false c.if-hops-routes.true

pub returns : goal.returns
returns c = has_room c.if-words-nodes.false c.if-hops-routes.false
