-- How many nodes the records of an input need, counted record by record.
use Rattle.std.specs.Prelude.{Bool, true, not, cond, ◌&&◌, List, ℕ, zero, suc, ◌+◌, ◌-◌, ◌*◌, leb, eqb}
use Rattle.bits.specs.Count.{count}
use Rattle.routes.specs.Record.{record_at}
use Rattle.tree_node.specs.NodeRuns.{path_at, through_at}

-- record k passes through a node of depth m that the record before it does not pass through
unfoldable pub fresh_at : List ℕ → ℕ → ℕ → Bool
fresh_at s m k = leb (4 * m) (record_at s k).len && cond (eqb k 0) true (not (through_at s m (path_at s m k) (k - 1)))

-- the root, and the fresh nodes of the depths 1 to m among n records
unfoldable pub nodes_to : List ℕ → ℕ → ℕ → ℕ
nodes_to s n zero = 1
nodes_to s n (suc m) = nodes_to s n m + count (fresh_at s (suc m)) n
