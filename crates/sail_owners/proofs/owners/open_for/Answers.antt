-- `sail_owners::owners::open_for`: the chunks of a route, by its length: none, a second, or a second and a third that hangs from it.
use native.Mathlib.Omega.{arith}
use Rattle.sail_owners.proofs.Packs.{slot_small, hangs-second, opened-none, chunk-second, opened-second, hangs-third, opened-third}
use Rattle.sail_owners.proofs.owners.open_for.Goals as goal

pub returns-then-len-p1 : goal.returns-then-len-p1
returns-then-len-p1 c = opened-none _ _ _ _ _ _ c.requires (omega arith)

pub overflow_add-slot : goal.overflow_add-slot
overflow_add-slot c =
    record {
      fits = omega (
        arith,
        slot_small _ _ _ _ _ _ c.requires _
            c.slot.ensures,
      );
    }

pub overflow_add-top : goal.overflow_add-top
overflow_add-top c = record { fits = omega (arith, slot_small _ _ _ _ _ _ c.requires _ c.slot.ensures, c.requires.small) }

pub own_chunk-second-requires : goal.own_chunk-second-requires
own_chunk-second-requires c = hangs-second _ _ _ _ _ _ c.requires (omega arith) _ c.slot.ensures

pub returns-then-len-p2 : goal.returns-then-len-p2
returns-then-len-p2 c =
    let wide = c.from-len.ensures in
    let longer = c.if-len-p1.false in
    opened-second _ _ _ _ _ _ c.requires (omega (arith, longer, wide)) _ c.slot.ensures _ _ c.own_chunk-second.ensures
    (omega (arith, c.if-len-p2.true, wide))

pub second_place-requires : goal.second_place-requires
second_place-requires c =
    let wide = c.from-len.ensures in
    let longer = c.if-len-p1.false in
    chunk-second _ _ _ _ _ _ c.requires (omega (arith, longer, wide)) _ c.slot.ensures _ _
    c.own_chunk-second.ensures c.own_chunk-second.auto.own

pub overflow_cast-second_place : goal.overflow_cast-second_place
overflow_cast-second_place c = omega (arith, c.second_place.ensures.1)

pub overflow_add-second_place : goal.overflow_add-second_place
overflow_add-second_place c = omega (arith, c.second_place.ensures.1)

pub overflow_add-top-2 : goal.overflow_add-top-2
overflow_add-top-2 c = record { fits = omega (arith, c.second_place.ensures.1, c.requires.small) }

pub own_chunk-third-requires : goal.own_chunk-third-requires
own_chunk-third-requires c =
    let wide = c.from-len.ensures in
    let longer = c.if-len-p1.false in
    hangs-third _ _ _ _ _ _ c.requires (omega (arith, longer, wide)) _ c.slot.ensures _ _ c.own_chunk-second.ensures
    (omega (arith, c.if-len-p2.false, wide)) _ c.second_place.ensures.0

pub returns : goal.returns
returns c =
    let wide = c.from-len.ensures in
    let longer = c.if-len-p1.false in
    opened-third _ _ _ _ _ _ c.requires (omega (arith, longer, wide)) _ c.slot.ensures _ _ c.own_chunk-second.ensures
    (omega (arith, c.if-len-p2.false, wide)) _ c.second_place.ensures.0 _ _ c.own_chunk-third.ensures
