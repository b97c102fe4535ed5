-- `tree_node::run::passes`. Whether record k passes through the node of depth m for a path.
use Rattle.tree_node.proofs.Scans.{too_short, tested}
use Rattle.tree_node.proofs.run.passes.Goals as goal

pub returns-then-from-m : goal.returns-then-from-m
returns-then-from-m c = search too_short

pub returns : goal.returns
returns c = search tested
