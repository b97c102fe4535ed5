-- `sail_cells_test::owned_ok`. Whether the cell at place q of the pool above names chunk c, and the chunk is as the routes ask for the cells of level
-- p that lie in cell i of level p - d.
use Rattle.sail_cells_test.proofs.Chunks.{not_named, named-tells}
use Rattle.sail_cells_test.proofs.owned_ok.Goals as goal

pub returns-then-from-c : goal.returns-then-from-c
returns-then-from-c c = not_named _ _ _ _ _ _ _ _ _ _ _ c.if-from-c.true c.from.ensures

pub returns : goal.returns
returns c = search named-tells
