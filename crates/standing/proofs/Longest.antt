-- `best` is the hop of the longest route that covers the cell.
use mathlib.Core.Path.{◌≡◌, refl, sym, ◌∙◌, ap}
use mathlib.Core.Logic.{◌⊎◌, inl, inr}
use mathlib.Core.Bool.{Bool, true, false, true≢false}
use mathlib.Core.List.Memᴰ
use mathlib.Core.List.{List, [], ◌∷◌, Memᴰ}
use Prim.Native.Nat.{ℕ, zero, suc, ◌-◌, ◌/◌, ◌^◌, ◌≤◌}
use native.Mathlib.Nat.{div-one, le_of_suc-le-suc, lt_of_not-le}
use native.Mathlib.Omega.{arith}
use lib.Dec.{eqb, leb}
use borrow.Author.Tests.{leb-true, le-leb, eqb-true, eq-eqb}
use Rattle.standing.specs.Cells.{here, covers, first, or_else, best, Best}
use Rattle.routes.specs.declared.Route.{Route}
use Rattle.bits.specs.Slot.{slot}
use Rattle.bits.proofs.Bools.{and_split, both, untrue, decided}
use Rattle.bits.proofs.Slots.{half_pow}

-- what `first` finds
pub data First (f : Route → Bool) (rs : List Route) : Type 0 where
  nothing : first f rs ≡ 0 → ((r : Route) → Memᴰ r rs → f r ≡ false) → First f rs
  found : (r : Route) → Memᴰ r rs → f r ≡ true → first f rs ≡ suc r.hop → First f rs

pub first-is : (f : Route → Bool) (rs : List Route) → First f rs
unfolding first
first-is f [] = nothing refl (λ r m. absurd (Memᴰ.not-nil m))
first-is f (x ∷ xs) = go (decided (f x)) (first-is f xs)
  where
    go : (f x ≡ true) ⊎ (f x ≡ false) → First f xs → First f (x ∷ xs)
    go (inl e) w = found x (Memᴰ.head refl) e (rw e)
    go (inr e) (nothing z n) = nothing (rw e z) (λ r m. at r (Memᴰ.cases_cons m))
      where
        at : (r : Route) → (r ≡ x) ⊎ Memᴰ r xs → f r ≡ false
        at r (inl q) = rw q e
        at r (inr m) = n r m
    go (inr e) (found r m t z) = found r (Memᴰ.tail m) t (rw e z)

module _ (p i : ℕ) (r : Route) where
  pub cover-parts : covers p i r ≡ true → (r.len ≤ p) × (slot r.len r.addr ≡ i / 2 ^ (p - r.len))
  cover-parts e =
      let s = and_split (leb r.len p) (eqb (slot r.len r.addr) (i / 2 ^ (p - r.len))) e in
      (leb-true r.len p s.0, eqb-true _ _ s.1)

  cover-make : r.len ≤ p → slot r.len r.addr ≡ i / 2 ^ (p - r.len) → covers p i r ≡ true
  cover-make l c = both (le-leb r.len p l) (eq-eqb _ _ c)

  pub here-parts : here p i r ≡ true → (r.len ≡ p) × (slot p r.addr ≡ i)
  here-parts e =
      let s = and_split (eqb r.len p) (eqb (slot p r.addr) i) e in
      (eqb-true r.len p s.0, eqb-true _ _ s.1)

  pub here-make : r.len ≡ p → slot p r.addr ≡ i → here p i r ≡ true
  here-make l c = both (eq-eqb r.len p l) (eq-eqb _ _ c)

  here-covers : here p i r ≡ true → covers p i r ≡ true
  here-covers e =
      let h = here-parts e in
      let z : p - r.len ≡ 0 = omega (arith, h.0) in
      cover-make (omega (arith, h.0)) (ap (λ (n : ℕ). slot n r.addr) h.0 ∙ h.1 ∙ sym (rw z (div-one i)))

  -- a route that covers the cell and is no shorter than its level is the cell's own
  covers-here : covers p i r ≡ true → p ≤ r.len → here p i r ≡ true
  covers-here e h =
      let c = cover-parts e in
      let z : p - r.len ≡ 0 = omega (arith, c.0) in
      let q : r.len ≡ p = omega (arith, c.0) in
      here-make q (ap (λ (n : ℕ). slot n r.addr) (sym q) ∙ c.1 ∙ rw z (div-one i))

halves : (i p l : ℕ) → l ≤ p → i / 2 / 2 ^ (p - l) ≡ i / 2 ^ (suc p - l)
halves i p l h = half_pow i (p - l) ∙ ap (λ (n : ℕ). i / 2 ^ n) (omega arith)

covers_up : (p i : ℕ) (r : Route) → covers (suc p) i r ≡ true → r.len ≤ p → covers p (i / 2) r ≡ true
covers_up p i r e h = cover-make p (i / 2) r h ((cover-parts (suc p) i r e).1 ∙ sym (halves i p r.len h))

covers_down : (p i : ℕ) (r : Route) → covers p (i / 2) r ≡ true → covers (suc p) i r ≡ true
covers_down p i r e =
    let c = cover-parts p (i / 2) r e in
    cover-make (suc p) i r (omega (arith, c.0)) (c.1 ∙ halves i p r.len c.0)

-- the cell's own route is the longest that covers it
own-best : (rs : List Route) (p i h : ℕ) (r : Route) → Memᴰ r rs → here p i r ≡ true → h ≡ r.hop → Best rs p i h
own-best rs p i h r m e q = Best.one (record {
  route = r;
  listed = m;
  covering = here-covers p i r e;
  longest = λ r' m' c. omega (arith, (here-parts p i r e).0, (cover-parts p i r' c).0);
  its_hop = q;
})

pub best-is : (rs : List Route) (p i : ℕ) → Best rs p i (best rs p i)
unfolding best
best-is rs zero i = go (first-is (here zero i) rs)
  where
    go : First (here zero i) rs → Best rs zero i (or_else (first (here zero i) rs) 0)
    go (nothing z n) = Best.none (rw z) (λ r m. untrue (covers zero i r) (λ c. true≢false (sym (covers-here zero i r c (omega arith)) ∙ n r m)))
    go (found r m t z) = own-best rs zero i _ r m t (rw z)
best-is rs (suc p) i = go (first-is (here (suc p) i) rs) (best-is rs p (i / 2))
  where
    go : First (here (suc p) i) rs → Best rs p (i / 2) (best rs p (i / 2)) → Best rs (suc p) i (or_else (first (here (suc p) i) rs) (best rs p (i / 2)))
    go (found r m t z) w = own-best rs (suc p) i _ r m t (rw z)
    go (nothing z n) w = rw z (lower w)
      where
        shorter : (r : Route) → Memᴰ r rs → covers (suc p) i r ≡ true → r.len ≤ p
        shorter r m c = le_of_suc-le-suc (lt_of_not-le (λ (g : suc p ≤ r.len). true≢false (sym (covers-here (suc p) i r c g) ∙ n r m)))

        lower : Best rs p (i / 2) (best rs p (i / 2)) → Best rs (suc p) i (best rs p (i / 2))
        lower (Best.none q k) = Best.none q (λ r m. untrue (covers (suc p) i r) (λ c. true≢false (sym (covers_up p i r c (shorter r m c)) ∙ k r m)))
        lower (Best.one w) = Best.one (record {
          route = w.route;
          listed = w.listed;
          covering = covers_down p i w.route w.covering;
          longest = λ r m c. w.longest r m (covers_up p i r c (shorter r m c));
          its_hop = w.its_hop;
        })
