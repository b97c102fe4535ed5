-- `sail_cells_test::start`. Where chunk c begins.
use Rattle.sail_cells_test.proofs.Blocks.{start_is}
use Rattle.sail_cells_test.proofs.start.Goals as goal

pub returns : goal.returns
returns c = start_is _ _ c.requires
