-- `sail::geometry::Geometry::first_cells`. How many first cells there are.
use native.Mathlib.Omega.{arith}
use Rattle.sail.proofs.Geos.{power}
use Rattle.sail.proofs.geometry.Geometry.first_cells.Goals as goal

pub returns : goal.returns
returns c = power _ 16 (omega arith) (omega arith)
