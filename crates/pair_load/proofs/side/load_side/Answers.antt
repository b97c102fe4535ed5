-- `pair_load::side::load_side`: the same, in room of its own for the owners that the party sees.
use mathlib.Core.Path.{sym}
use native.Mathlib.Omega.{arith}
use lib.Seq.{length-take-le}
use Rattle.pair_load.proofs.SideWrites.{write-facts}
use Rattle.pair_load.proofs.side.load_side.Goals as goal

pub slice_bounds-see2-end : goal.slice_bounds-see2-end
slice_bounds-see2-end c = omega (arith, (write-facts _ _ _ _ c.requires).clear.few2)

pub slice_bounds-write_side-end : goal.slice_bounds-write_side-end
slice_bounds-write_side-end c = sym (length-take-le _ _ (omega (arith, (write-facts _ _ _ _ c.requires).clear.few2)))

pub slice_bounds-see3-end : goal.slice_bounds-see3-end
slice_bounds-see3-end c = omega (arith, (write-facts _ _ _ _ c.requires).clear.few3)

pub slice_bounds-write_side-end-2 : goal.slice_bounds-write_side-end-2
slice_bounds-write_side-end-2 c = sym (length-take-le _ _ (omega (arith, (write-facts _ _ _ _ c.requires).clear.few3)))

pub write_side-requires : goal.write_side-requires
write_side-requires c =
    let z = (write-facts _ _ _ _ c.requires).clear in
    record { load_ready = c.requires; sight = record { room2 = length-take-le _ _ (omega (arith, z.few2)); room3 = length-take-le _ _ (omega (arith, z.few3)) } }

pub returns : goal.returns
returns c = c.write_side.ensures
