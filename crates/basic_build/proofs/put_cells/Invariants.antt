-- The invariant: the hops of the first `k` records stand in their cells, and the others are zero.
use Rattle.basic_build.proofs.Fills.{PutTo}
use Rattle.basic_build.proofs.put_cells.Given as goal

abbrev pub invariant-loop-k : goal.invariant-loop-k
invariant-loop-k l = PutTo l.list l.k l.cells
