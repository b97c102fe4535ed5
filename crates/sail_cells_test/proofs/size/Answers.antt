-- `sail_cells_test::size`. How many cells a block has whose places take d bits.
use native.Mathlib.Omega.{arith}
use Rattle.sail.proofs.Geos.{power}
use Rattle.sail_cells_test.proofs.size.Goals as goal

pub returns : goal.returns
returns c = power _ 10 (omega arith) (omega arith)
