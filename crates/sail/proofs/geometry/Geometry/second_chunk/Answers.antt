-- `sail::geometry::Geometry::second_chunk`. How many cells a second chunk has.
use native.Mathlib.Omega.{arith}
use Rattle.sail.proofs.Geos.{power}
use Rattle.sail.proofs.geometry.Geometry.second_chunk.Goals as goal

pub returns : goal.returns
returns c = power _ 10 (omega arith) (omega arith)
