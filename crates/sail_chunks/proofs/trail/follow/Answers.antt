-- `sail_chunks::trail::follow`. A first cell that is a leaf tells of the second too; else its chunk is there, and has the second cell.
use native.Mathlib.Omega.{arith}
use Rattle.sail_chunks.proofs.Trails.{first-there, trail-short, named_small, second-there, trail-long}
use Rattle.sail_chunks.proofs.trail.follow.Goals as goal

pub bounds-first-slot : goal.bounds-first-slot
bounds-first-slot c = first-there _ _ _ _ _ _ c.requires _ c.ranges.addr.fits _ c.slot.ensures

pub returns-then-v-ge32768 : goal.returns-then-v-ge32768
returns-then-v-ge32768 c = trail-short _ _ _ _ _ _ c.requires _ c.ranges.addr.fits _ c.slot.ensures c.if-v-ge32768.true

pub overflow_cast-v-2 : goal.overflow_cast-v-2
overflow_cast-v-2 c = omega (arith, c.if-v-ge32768.false)

pub second_place-q-requires : goal.second_place-q-requires
second_place-q-requires c =
    let small = named_small _ _ _ _ _ _ c.requires _ c.ranges.addr.fits _ c.slot.ensures c.if-v-ge32768.false in
    record { valid = c.requires.valid; one = small.0; few = omega (arith, small.1) }

pub bounds-second-q : goal.bounds-second-q
bounds-second-q c =
    second-there _ _ _ _ _ _ c.requires _ c.ranges.addr.fits _ c.slot.ensures c.if-v-ge32768.false _ c.second_place-q.ensures.0

pub returns : goal.returns
returns c =
    trail-long _ _ _ _ _ _ c.requires _ c.ranges.addr.fits _ c.slot.ensures c.if-v-ge32768.false _ c.second_place-q.ensures.0
