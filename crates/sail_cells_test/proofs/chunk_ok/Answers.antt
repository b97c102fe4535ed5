-- `sail_cells_test::chunk_ok`. Whether chunk c of a pool is free, or hangs from the pool above and is right.
use Rattle.sail_cells_test.proofs.Chunks.{hooks, hangs, free-passes, nowhere, used-tells}
use Rattle.sail_cells_test.proofs.chunk_ok.Goals as goal

pub returns-then-o-eq0 : goal.returns-then-o-eq0
returns-then-o-eq0 c = search free-passes

pub owner_cell-requires : goal.owner_cell-requires
owner_cell-requires c = search hooks

pub owned_ok-requires : goal.owned_ok-requires
owned_ok-requires c =
    hangs _ _ _ _ _ _ _ _ _ _ c.requires.pooled _ c.requires.c_in_bounds _ c.start-a.ensures _ _ (rw c.in-Some.is at c.owner_cell.ensures)

pub returns-in-Some : goal.returns-in-Some
returns-in-Some c =
    used-tells _ _ _ _ _ _ _ _ _ _ _ c.start-a.ensures c.if-o-eq0.false _ (rw c.in-Some.is at c.owner_cell.ensures) _ c.owned_ok.ensures

pub returns-in-None : goal.returns-in-None
returns-in-None c = nowhere _ _ _ _ _ _ _ _ _ _ _ c.start-a.ensures c.if-o-eq0.false (rw c.in-None.is at c.owner_cell.ensures)
