-- `tree_node::count::fresh`. Whether record k passes through a node of depth m that the record before it does not pass through.
use Rattle.tree_node.proofs.Scans.{fresh-short, fresh-first, fresh-test}
use Rattle.tree_node.proofs.count.fresh.Goals as goal

pub returns-then-from-m : goal.returns-then-from-m
returns-then-from-m c = search fresh-short

pub returns-then-k-eq0 : goal.returns-then-k-eq0
returns-then-k-eq0 c = search fresh-first

pub returns : goal.returns
returns c = search fresh-test
