-- `tree_node::run::run_end`. Where the run of the node of depth m that begins with record a ends: at e, or before.
use Prim.Native.Nat.{◌≤◌, ◌<◌}
use Rattle.tree_node.proofs.Scans.{AllTo}
use Rattle.tree_node.proofs.run.run_end.Given as goal

abbrev pub invariant-loop-k : goal.invariant-loop-k
invariant-loop-k l = (l.a < l.k) × (l.k ≤ l.e) × AllTo l.list l.m l.a l.k
