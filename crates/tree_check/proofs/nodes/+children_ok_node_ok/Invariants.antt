-- The test of a node calls the test of its child array and back. What falls: 18 for each level left below, and in a child array one for each sibling
-- left, of which there are at most 16.
use Rattle.std.proofs.Common.{◌+◌, ◌*◌}
use Rattle.tree_check.proofs.nodes.+children_ok_node_ok.Given as goal

abbrev pub decreases-children_ok : goal.decreases-children_ok
decreases-children_ok l = 18 * l.left + 1 + l.n

abbrev pub decreases-node_ok : goal.decreases-node_ok
decreases-node_ok l = 18 * l.left
