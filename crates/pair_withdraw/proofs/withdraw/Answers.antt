-- `pair_withdraw::withdraw`: the address is cleared, the sizes and the prefix judged, and the rest is done in room of its own.
use Rattle.refusals.proofs.Numbers.{number-above_0}
use mathlib.Core.Bool.{not}
use mathlib.Core.Path.{refl, sym, ap}
use native.Mathlib.Omega.{arith}
use borrow.Author.Rules.{rules}
use lib.Seq.{length-take-le}
use Rattle.pair_withdraw.proofs.PairReturns.{sized, few2, few3, is-prefix, off-sizes, off-prefix, off-taken, on-taken}
use Rattle.pair_withdraw.proofs.withdraw.Goals as goal

pub returns-in-Err : goal.returns-in-Err
returns-in-Err c = rw c.number.ensures (off-sizes _ _ _ _ _ _ c.clear_after-a.ensures c.in-Err.ensures (number-above_0 _))

pub returns-then-not-prefix_ok : goal.returns-then-not-prefix_ok
returns-then-not-prefix_ok c =
    off-prefix _ _ _ _ _ _ c.clear_after-a.ensures c.in_default.ensures refl _ c.prefix_ok.ensures
    (ap not c.if-not-prefix_ok.true)

-- the pools have no more chunks than the room for what is seen
pub slice_bounds-see2-end : goal.slice_bounds-see2-end
slice_bounds-see2-end c = omega (arith, few2 c.in_default.ensures refl)

pub slice_bounds-withdraw_sized-end : goal.slice_bounds-withdraw_sized-end
slice_bounds-withdraw_sized-end c = sym (length-take-le _ _ (omega (arith, few2 c.in_default.ensures refl)))

pub slice_bounds-see3-end : goal.slice_bounds-see3-end
slice_bounds-see3-end c = omega (arith, few3 c.in_default.ensures refl)

pub slice_bounds-withdraw_sized-end-2 : goal.slice_bounds-withdraw_sized-end-2
slice_bounds-withdraw_sized-end-2 c = sym (length-take-le _ _ (omega (arith, few3 c.in_default.ensures refl)))

pub withdraw_sized-r-requires : goal.withdraw_sized-r-requires
withdraw_sized-r-requires c =
    let told = c.in_default.ensures in
    let fits = refl in
    record {
      both_sized = sized told fits;
      prefix = is-prefix _ _ _ c.prefix_ok.ensures (ap not c.if-not-prefix_ok.false);
      sight = record { room2 = length-take-le _ _ (omega (arith, few2 told fits)); room3 = length-take-le _ _ (omega (arith, few3 told fits)) };
      scratch = record { words = search rules; chain = search rules };
    }

pub returns-then-r-ne0 : goal.returns-then-r-ne0
returns-then-r-ne0 c =
    off-taken _ _ _ _ _ _ c.clear_after-a.ensures c.withdraw_sized-r.result _ c.withdraw_sized-r.ensures c.if-r-ne0.true

pub returns : goal.returns
returns c =
    on-taken _ _ _ _ _ _ c.clear_after-a.ensures c.withdraw_sized-r.result _ c.withdraw_sized-r.ensures
    c.if-r-ne0.false _ refl
