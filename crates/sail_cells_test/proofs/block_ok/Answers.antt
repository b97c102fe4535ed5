-- `sail_cells_test::block_ok`. Whether the 2^d cells from place a on are as the routes ask for the cells of level p that lie in cell i of level p -
-- d.
use Rattle.sail_cells_test.proofs.Blocks.{plan-room, block-tested, block-tells}
use Rattle.sail_cells_test.proofs.block_ok.Goals as goal

pub slice_bounds-right_under-end-2 : goal.slice_bounds-right_under-end-2
slice_bounds-right_under-end-2 c = search plan-room

pub right_under-requires : goal.right_under-requires
right_under-requires c = search block-tested

pub returns : goal.returns
returns c = search block-tells
