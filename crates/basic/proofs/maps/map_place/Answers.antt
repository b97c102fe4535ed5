-- A one shifted by at most 16 bits stays whole, so the sum is the place.
use Rattle.basic.proofs.Places.{ones-fit, place-told}
use native.Mathlib.Omega.{arith}
use Rattle.basic.proofs.maps.map_place.Goals as goal

pub overflow_sub-result : goal.overflow_sub-result
overflow_sub-result c = omega (arith, ones-fit c.args.l c.requires)

pub overflow_add-result : goal.overflow_add-result
overflow_add-result c = record { fits = omega (arith, (place-told _ _ _ c.requires c.ranges.addr.fits c.slot.ensures).1) }

pub returns : goal.returns
returns c = place-told _ _ _ c.requires c.ranges.addr.fits c.slot.ensures
