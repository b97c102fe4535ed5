-- `sail_chunks::opening::open`. The second chunk that serves the route is known before the owners change: the one that is opened, or the one there.
use native.Mathlib.Omega.{arith}
use Rattle.sail_chunks.proofs.ToOpen.{opened-second, opened-third, slot_small}
use Rattle.sail_chunks.proofs.opening.open.Goals as goal

pub chunk_for-c-requires : goal.chunk_for-c-requires
chunk_for-c-requires c = record { few = c.requires.few2; small = c.requires.few }

pub overflow_add-c : goal.overflow_add-c
overflow_add-c c = omega (arith, c.chunk_for-c.ensures.1)

pub second_place-q-requires : goal.second_place-q-requires
second_place-q-requires c = record { valid = c.requires.valid; one = omega arith; few = omega (arith, c.chunk_for-c.ensures.1) }

pub overflow_add-slot : goal.overflow_add-slot
overflow_add-slot c = omega (arith, slot_small _ _ _ c.requires.valid c.requires.addr c.slot.ensures)

pub set_owner-requires : goal.set_owner-requires
set_owner-requires c = c.requires.second.free

pub set_owner-requires-2 : goal.set_owner-requires-2
set_owner-requires-2 c = c.requires.third.free

pub returns : goal.returns
returns c =
    record {
      second = opened-second _ _ _ _ _ _ _ c.requires _ _ c.slot.ensures c.set_owner.ensures;
      third = opened-third _ _ _ _ _ _ _ c.requires _ c.chunk_for-c.ensures.0 _ _ c.second_place-q.ensures.0 c.set_owner-2.ensures;
    }
