-- `need rs p` is the number of long cells of level p.
use mathlib.Core.Path.{◌≡◌, refl, sym, ◌∙◌, subst}
use mathlib.Core.Logic.{◌⊎◌, inl, inr}
use mathlib.Core.Bool.{true, false, not, ◌&&◌, or-true, and-true, and-false}
use mathlib.Core.List.{List, [], ◌∷◌}
use Prim.Native.Nat.{ℕ, zero, suc, ◌+◌, ◌-◌, ◌^◌, ◌≤◌}
use native.Mathlib.Omega.{arith}
use lib.Dec.{eqb, ltb}
use borrow.Author.Tests.{eqb-true, eqb-false, eq-eqb, ne_eqb, le-ltb}
use Rattle.routes.specs.Route.{Good}
use Rattle.standing.specs.Cells.{within, any, long, need}
use Rattle.routes.specs.declared.Route.{Route}
use Rattle.bits.specs.Slot.{slot}
use Rattle.bits.specs.Count.{bit, count}
use Rattle.bits.proofs.Slots.{slot_lt}
use Rattle.bits.proofs.Bools.{decided, and_split, or_split, same}
use Rattle.bits.proofs.Counts.{count-ext, without, count-without}

none-long : (p n : ℕ) → 0 ≡ count (long [] p) n
unfolding any count
none-long p zero = refl
none-long p (suc n) = omega (arith, none-long p n)

-- one more route: it is short; or its cell, j, is long without it; or it is not
module _ (r : Route) (rs : List Route) (p : ℕ) where
  short-same : ltb p r.len ≡ false → (i : ℕ) → long rs p i ≡ long (r ∷ rs) p i
  unfolding any
  short-same e i = rw e

  old-same : long rs p (slot p r.addr) ≡ true → (i : ℕ) → long rs p i ≡ long (r ∷ rs) p i
  unfolding any
  old-same c i = same _ _ (λ t. rw t (or-true (within p i r))) (λ t. go (or_split (within p i r) (long rs p i) t))
    where
      go : (within p i r ≡ true) ⊎ (long rs p i ≡ true) → long rs p i ≡ true
      go (inl w) = subst (λ (k : ℕ). long rs p k ≡ true) (eqb-true (slot p r.addr) i (and_split (ltb p r.len) (eqb (slot p r.addr) i) w).1) c
      go (inr t) = t

  new-here : ltb p r.len ≡ true → long (r ∷ rs) p (slot p r.addr) ≡ true
  unfolding any
  new-here e = rw (e, eq-eqb (slot p r.addr) (slot p r.addr) refl)

  new-same : long rs p (slot p r.addr) ≡ false → (i : ℕ) → without (long (r ∷ rs) p) (slot p r.addr) i ≡ long rs p i
  unfolding any
  new-same c i = go (decided (eqb i (slot p r.addr)))
    where
      go : (eqb i (slot p r.addr) ≡ true) ⊎ (eqb i (slot p r.addr) ≡ false) → without (long (r ∷ rs) p) (slot p r.addr) i ≡ long rs p i
      go (inl t) = rw t (and-false (long (r ∷ rs) p i) ∙ sym (rw (eqb-true i (slot p r.addr) t) c))
      go (inr t) = simp (t, and-true, and-false, ne_eqb (slot p r.addr) i (λ (q : slot p r.addr ≡ i). eqb-false i (slot p r.addr) t (sym q)))

pub need-count : (rs : List Route) (p : ℕ) → p ≤ 32 → Good rs → need rs p ≡ count (long rs p) (2 ^ p)
unfolding need Good
need-count [] p h a = none-long p (2 ^ p)
need-count (r ∷ rs) p h a = go (decided (ltb p r.len)) (decided (long rs p j)) (need-count rs p h a.2)
  where
    j : ℕ
    j = slot p r.addr

    n : ℕ
    n = 2 ^ p

    go : (ltb p r.len ≡ true) ⊎ (ltb p r.len ≡ false) → (long rs p j ≡ true) ⊎ (long rs p j ≡ false) → need rs p ≡ count (long rs p) n
        → bit (ltb p r.len && not (long rs p j)) + need rs p ≡ count (long (r ∷ rs) p) n
    go (inr e) c ih = rw e (omega (arith, count-ext (long rs p) (long (r ∷ rs) p) n (λ i l. short-same r rs p e i)))
    go (inl e) (inl c) ih = rw (e, c) (omega (arith, count-ext (long rs p) (long (r ∷ rs) p) n (λ i l. old-same r rs p c i)))
    go (inl e) (inr c) ih = rw (e, c) (omega (
      arith,
      count-without (long (r ∷ rs) p) j n (slot_lt p r.addr h a.0.prefix.addr_ok) (new-here r rs p e),
      count-ext (without (long (r ∷ rs) p) j) (long rs p) n (λ i l. new-same r rs p c i),
    ))

-- no route is longer than 32
pub none_longer : (rs : List Route) (i : ℕ) → Good rs → long rs 32 i ≡ false
unfolding any Good
none_longer [] i a = refl
none_longer (r ∷ rs) i a = rw (le-ltb 32 r.len a.0.prefix.len_ok) (none_longer rs i a.2)
