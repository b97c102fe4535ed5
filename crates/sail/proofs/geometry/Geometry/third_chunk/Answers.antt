-- `sail::geometry::Geometry::third_chunk`. How many cells a third chunk has.
use native.Mathlib.Omega.{arith}
use Rattle.sail.proofs.Geos.{power}
use Rattle.sail.proofs.geometry.Geometry.third_chunk.Goals as goal

pub returns : goal.returns
returns c = power _ 10 (omega arith) (omega arith)
