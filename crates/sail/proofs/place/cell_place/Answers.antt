-- `sail::place::cell_place`: the shifts lose nothing, since a chunk's number and its size are small.
use native.Mathlib.Omega.{arith}
use Rattle.sail.proofs.Steps.{size-some, place_is}
use Rattle.sail.proofs.place.cell_place.Goals as goal

pub nonzero_rem-result : goal.nonzero_rem-result
nonzero_rem-result c = size-some _ _ 0 c.requires

pub overflow_add-result : goal.overflow_add-result
overflow_add-result c = record { fits = omega (arith, (place_is _ _ c.args.i c.requires).1) }

pub returns : goal.returns
returns c = place_is _ _ _ c.requires
