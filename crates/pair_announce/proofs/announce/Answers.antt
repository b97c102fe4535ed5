-- `pair_announce::announce`. The sizes; then the address is cleared, and the rest is done in room of its own.
use Rattle.refusals.proofs.Numbers.{number-above_0}
use mathlib.Core.Path.{refl, sym}
use native.Mathlib.Omega.{arith}
use borrow.Author.Rules.{rules}
use lib.Seq.{length-take-le}
use Rattle.pair_announce.proofs.Answers.{sizes-pass, sizes-refused, announce-told}
use Rattle.pair_announce.proofs.announce.Goals as goal

pub returns-in-Err : goal.returns-in-Err
returns-in-Err c = rw c.number.ensures (sizes-refused _ _ _ _ _ c.in-Err.ensures (number-above_0 _))

-- the room for what the party sees: as many owners as there are
pub slice_bounds-see2-end : goal.slice_bounds-see2-end
slice_bounds-see2-end c = omega (arith, (sizes-pass c.in_default.ensures refl).1)

pub slice_bounds-announce_sized-end : goal.slice_bounds-announce_sized-end
slice_bounds-announce_sized-end c = sym (length-take-le _ _ (omega (arith, (sizes-pass c.in_default.ensures refl).1)))

pub slice_bounds-see3-end : goal.slice_bounds-see3-end
slice_bounds-see3-end c = omega (arith, (sizes-pass c.in_default.ensures refl).2)

pub slice_bounds-announce_sized-end-2 : goal.slice_bounds-announce_sized-end-2
slice_bounds-announce_sized-end-2 c = sym (length-take-le _ _ (omega (arith, (sizes-pass c.in_default.ensures refl).2)))

pub announce_sized-f-requires : goal.announce_sized-f-requires
announce_sized-f-requires c =
    let z = sizes-pass c.in_default.ensures refl in
    record {
      both_sized = z.0;
      sight = record { room2 = length-take-le _ _ (omega (arith, z.1)); room3 = length-take-le _ _ (omega (arith, z.2)) };
      scratch = record { words = search rules; chain = search rules };
    }

pub returns : goal.returns
returns c =
    announce-told _ _ _ _ _ c.clear_after-a.ensures c.announce_sized-f.result c.announce_sized-f.ensures _ refl _ c.answer.ensures
