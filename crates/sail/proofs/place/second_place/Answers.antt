-- `sail::place::second_place`: the place of the cell of the address's first p2 bits.
use native.Mathlib.Omega.{arith}
use Rattle.sail.proofs.Steps.{second-numbered, second_is}
use Rattle.sail.proofs.place.second_place.Goals as goal

pub overflow_sub-g : goal.overflow_sub-g
overflow_sub-g c = let v = c.requires.valid in omega arith

pub slot-requires : goal.slot-requires
slot-requires c = let v = c.requires.valid in omega arith

pub cell_place-requires : goal.cell_place-requires
cell_place-requires c = second-numbered _ _ c.requires

pub returns : goal.returns
returns c = second_is _ _ c.requires _ _ _ c.slot.ensures c.cell_place.ensures.0
