-- Which cells are long, and how many chunks are needed, after one route is inserted or one prefix removed.
use mathlib.Core.Path.{◌≡◌, refl, sym, ◌∙◌, ap}
use mathlib.Core.Logic.{◌⊎◌, inl, inr, ◌≢◌}
use mathlib.Core.Bool.{true, false, ◌||◌, false≢true, or-true}
use mathlib.Core.List.{List, [], ◌∷◌}
use Prim.Native.Nat.{ℕ, suc, ◌^◌, ◌≤◌}
use native.Mathlib.Omega.{arith}
use lib.Dec.{eqb, ltb}
use borrow.Author.Tests.{eqb-true, eq-eqb}
use Rattle.bits.specs.Slot.{slot}
use Rattle.bits.proofs.Bools.{decided, both, and_split, or_split, untrue, equal?}
use Rattle.bits.proofs.Slots.{slot_lt}
use Rattle.bits.proofs.Counts.{count-ext, without, without-same, without_other, count-without, count-into}
use Rattle.routes.specs.Route.{key, Fine, Good}
use Rattle.standing.specs.Cells.{within, any, long, need}
use Rattle.standing.specs.Standing.{is_at, stands, insert}
use Rattle.routes.specs.declared.Route.{Route}
use Rattle.standing.proofs.Need.{need-count}
use Rattle.standing.proofs.Standing.{one-prefix, insert-good, insert-long}

-- more long cells need no fewer chunks
pub need-mono : (xs ys : List Route) (p : ℕ) → p ≤ 32 → Good xs → Good ys
    → ((i : ℕ) → long xs p i ≡ true → long ys p i ≡ true) → need xs p ≤ need ys p
need-mono xs ys p h g k m = omega (
  arith,
  need-count xs p h g,
  need-count ys p h k,
  count-into (long xs p) (long ys p) (λ i. i) (2 ^ p) (2 ^ p) (record { lands = λ x l e. l; passes = λ x l e. m x e; apart = λ x y l l' e e' q. q }),
)

module _ (r : Route) where
  within-not : (p i : ℕ) → ltb p r.len ≡ false → within p i r ≡ false
  within-not p i e = rw e

  within-other : (p i : ℕ) → i ≢ slot p r.addr → within p i r ≡ false
  within-other p i h =
      untrue (within p i r) (λ e. h (sym (eqb-true (slot p r.addr) i (and_split (ltb p r.len) (eqb (slot p r.addr) i) e).1)))

  within-own : (p : ℕ) → ltb p r.len ≡ true → within p (slot p r.addr) r ≡ true
  within-own p e = both e (eq-eqb (slot p r.addr) (slot p r.addr) refl)

module _ (r : Route) (rs : List Route) (fine : Fine r) (good : Good rs) where
  -- the routes that then stand, and the cell of the route at level p
  abbrev next : List Route
  next = insert r rs

  abbrev cell : ℕ → ℕ
  cell p = slot p r.addr

  -- that cell of the route is long, and no other cell changes
  pub long-own : (p : ℕ) → ltb p r.len ≡ true → long (insert r rs) p (slot p r.addr) ≡ true
  long-own p e = insert-long r rs fine good p (slot p r.addr) ∙ rw (within-own r p e)

  pub long-other : (p i : ℕ) → i ≢ slot p r.addr → long (insert r rs) p i ≡ long rs p i
  long-other p i h = insert-long r rs fine good p i ∙ rw (within-other r p i h)

  pub long-short : (p i : ℕ) → ltb p r.len ≡ false → long (insert r rs) p i ≡ long rs p i
  long-short p i h = insert-long r rs fine good p i ∙ rw (within-not r p i h)

  pub long-grows : (p i : ℕ) → long rs p i ≡ true → long (insert r rs) p i ≡ true
  long-grows p i e = insert-long r rs fine good p i ∙ rw e (or-true (within p i r))

  -- so one chunk more is needed exactly where the route's cell was not long: need is the number of long cells, and without that cell they are
  -- those that were long
  pub need-more : (p : ℕ) → p ≤ 32 → ltb p r.len ≡ true → long rs p (cell p) ≡ false → need next p ≡ suc (need rs p)
  need-more p h e f =
      need-count next p h (insert-good r rs fine good)
      ∙ count-without (long next p) (cell p) (2 ^ p) (slot_lt p r.addr h fine.prefix.addr_ok) (long-own p e)
      ∙ ap suc (count-ext (without (long next p) (cell p)) (long rs p) (2 ^ p) (λ i l. at i (equal? i (cell p))) ∙ sym (need-count rs p h good))
    where
      at : (i : ℕ) → (i ≡ cell p) ⊎ (i ≢ cell p) → without (long next p) (cell p) i ≡ long rs p i
      at i (inl q) = rw q (without-same (long next p) (cell p) ∙ sym f)
      at i (inr q) = without_other (long next p) (cell p) i q ∙ long-other p i q

  pub need-same : (p : ℕ) → p ≤ 32 → (ltb p r.len ≡ true → long rs p (cell p) ≡ true) → need next p ≡ need rs p
  need-same p h e =
      need-count next p h (insert-good r rs fine good)
      ∙ count-ext (long next p) (long rs p) (2 ^ p) (λ i l. go i (decided (ltb p r.len)) (equal? i (cell p)))
      ∙ sym (need-count rs p h good)
    where
      go : (i : ℕ) → (ltb p r.len ≡ true) ⊎ (ltb p r.len ≡ false) → (i ≡ cell p) ⊎ (i ≢ cell p) → long next p i ≡ long rs p i
      go i (inr a) q = long-short p i a
      go i (inl a) (inr q) = long-other p i q
      go i (inl a) (inl q) = rw q (long-grows p (cell p) (e a) ∙ sym (e a))

-- a prefix that stands has its cells long
pub stands-long : (r : Route) (rs : List Route) → Fine r → Good rs → stands (key r) rs ≡ true
    → (p : ℕ) → ltb p r.len ≡ true → long rs p (slot p r.addr) ≡ true
unfolding any Good
stands-long r [] f g e p h = absurd (false≢true e)
stands-long r (s ∷ ss) f g e p h = go (or_split (is_at (key r) s) (any (is_at (key r)) ss) e) (stands-long r ss f g.2)
  where
    go : (is_at (key r) s ≡ true) ⊎ (any (is_at (key r)) ss ≡ true)
        → (any (is_at (key r)) ss ≡ true → (p : ℕ) → ltb p r.len ≡ true → long ss p (slot p r.addr) ≡ true)
        → (within p (slot p r.addr) s || any (within p (slot p r.addr)) ss) ≡ true
    go (inl q) ih =
        let k = one-prefix r s f g.0 (eqb-true (key s) (key r) q) in
        rw (k.0, k.1, h, eq-eqb (slot p r.addr) (slot p r.addr) refl)
    go (inr q) ih = rw (ih q p h) (or-true (within p (slot p r.addr) s))
