-- What stands at the place of a key, and so which change is the right one there.
use mathlib.Core.Path.{◌≡◌, refl, sym, ap, ◌∙◌}
use mathlib.Core.Logic.{◌⊎◌, inl, inr, ◌≢◌}
use mathlib.Core.Bool.{Bool, true, false, true≢false}
use mathlib.Core.List.{List}
use Prim.Native.Nat.{ℕ, ◌≤◌, ◌<◌}
use native.Mathlib.Omega.{arith}
use lib.Dec.{eqb}
use borrow.Author.Tests.{eqb-true, eq-eqb, ne_eqb}
use Rattle.bits.proofs.Bools.{below?, equal?}
use Rattle.routes.specs.Route.{key}
use Rattle.standing.specs.Standing.{stands}
use Rattle.routes.specs.Record.{record_at, routes_of}
use Rattle.routes.specs.declared.Route.{Route}
use Rattle.routes.proofs.Rows.{length-routes, nth-route}
use Rattle.lists.specs.Edit.{InsertAt, ReplaceAt, Placed, PutAt}
use Rattle.lists.proofs.Places.{place-le, place-before, place_after}
use Rattle.lists.proofs.EditRoutes.{stands-some, stands-none}

module _ (s : List ℕ) (n k p : ℕ) (at : Placed s n k p) where
  before : (j : ℕ) → j < k → key (record_at s j) < p
  before j l = place-before s n p j (rw at.place at l)

  -- no route has the key, where record k does not
  none : (k < n → key (record_at s k) ≢ p) → stands p (routes_of s n) ≡ false
  none h = stands-none p (routes_of s n) (λ i u. let v : i < n = rw length-routes at u in rw (nth-route s n i v) (go i v (below? i k) (equal? i k)))
    where
      go : (i : ℕ) → i < n → (i < k) ⊎ (k ≤ i) → (i ≡ k) ⊎ (i ≢ k) → key (record_at s i) ≢ p
      go i v (inl u) e = λ q. omega (arith, before i u)
      go i v (inr u) (inl e) = rw e (h (rw e at v))
      go i v (inr u) (inr e) = λ q. omega (
        arith,
        place_after s n p at.records k (rw at.place (omega arith))
            (omega arith),
        at.records.rises k i (omega (arith, e)) v,
      )

  -- the tests of `stands_at`
  pub at_place : (x : ℕ) → k < n → x ≡ key (record_at s k) → eqb x p ≡ stands p (routes_of s n)
  at_place x l e = go (equal? x p)
    where
      go : (x ≡ p) ⊎ (x ≢ p) → eqb x p ≡ stands p (routes_of s n)
      go (inl q) = eq-eqb x p q ∙ sym (stands-some p (routes_of s n) k (rw length-routes l) (ap key (nth-route s n k l) ∙ sym e ∙ q))
      go (inr q) = ne_eqb x p q ∙ sym (none (λ _ y. q (e ∙ y)))

  pub past-place : n ≤ k → false ≡ stands p (routes_of s n)
  past-place l = sym (none (λ u. absurd (omega arith)))

  -- a key that stands, stands at its place; and where it does not, the record there is after it
  pub found : stands p (routes_of s n) ≡ true → (k < n) × (key (record_at s k) ≡ p)
  found e = go (below? k n)
    where
      go : (k < n) ⊎ (n ≤ k) → (k < n) × (key (record_at s k) ≡ p)
      go (inl l) = (l, eqb-true (key (record_at s k)) p (at_place (key (record_at s k)) l refl ∙ e))
      go (inr l) = absurd (true≢false (sym e ∙ sym (past-place l)))

  after : stands p (routes_of s n) ≡ false → k < n → p < key (record_at s k)
  after e l = omega (arith, place_after s n p at.records k (rw at.place (omega arith)) l, differs)
    where
      differs : key (record_at s k) ≢ p
      differs q = true≢false (sym (stands-some p (routes_of s n) k (rw length-routes l) (ap key (nth-route s n k l) ∙ q)) ∙ e)

-- what `put_at` hands on
module _ (s : List ℕ) (n k : ℕ) (b : Bool) (r : Route) (ok : PutAt s n k b r) where
  at : Placed s n k (key r)
  at = record { records = ok.fits.listed.records; place = ok.place }

  pub replace-fits : b ≡ true → ReplaceAt s n k r
  replace-fits t =
      let f = found s n k (key r) at (sym ok.stood ∙ t) in
      record { listed = ok.fits.listed; place = f.0; same = f.1 }

  pub insert-fits : b ≡ false → InsertAt s n k r
  insert-fits t =
      let new = sym ok.stood ∙ t in
      record {
        listed = ok.fits.listed;
        room = ok.fits.room new;
        place = rw ok.place (place-le s n (key r));
        before = before s n k (key r) at;
        after = after s n k (key r) at new;
      }
