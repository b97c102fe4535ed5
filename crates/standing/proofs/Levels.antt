-- What holds of a cell and the cells of a higher level.
use mathlib.Core.Path.{◌≡◌, refl, sym, ◌∙◌, ap}
use mathlib.Core.Logic.{◌⊎◌, inl, inr}
use mathlib.Core.Bool.{Bool, true, false, ◌||◌, or-true}
use mathlib.Core.List.{List, [], ◌∷◌}
use Prim.Native.Nat.{ℕ, zero, suc, ◌+◌, ◌-◌, ◌/◌, ◌^◌, ◌≤◌, ◌<◌}
use native.Mathlib.Nat.{add-suc, add-zero, div-one}
use native.Mathlib.Omega.{arith}
use lib.Dec.{eqb, ltb}
use borrow.Author.Tests.{ltb-true, eqb-true, lt-ltb, eq-eqb}
use Rattle.standing.specs.Cells.{here, within, any, first, or_else, long, best}
use Rattle.routes.specs.declared.Route.{Route}
use Rattle.bits.specs.Slot.{slot}
use Rattle.bits.proofs.Slots.{slot-up, half_pow}
use Rattle.bits.proofs.Bools.{both, and_split, or_split, or-none, fails}

-- a test that passes at some route, and one that is weaker
pub any-mono : (f g : Route → Bool) (rs : List Route) → ((r : Route) → f r ≡ true → g r ≡ true) → any f rs ≡ true → any g rs ≡ true
unfolding any
any-mono f g [] h e = e
any-mono f g (r ∷ rs) h e = go (or_split (f r) (any f rs) e) (any-mono f g rs h)
  where
    go : (f r ≡ true) ⊎ (any f rs ≡ true) → (any f rs ≡ true → any g rs ≡ true) → (g r || any g rs) ≡ true
    go (inl p) ih = rw (h r p)
    go (inr q) ih = rw (ih q) (or-true (g r))

pub first-none : (f : Route → Bool) (rs : List Route) → any f rs ≡ false → first f rs ≡ 0
unfolding any first
first-none f [] e = refl
first-none f (r ∷ rs) e = rw (or-none (f r) (any f rs) e).0 (first-none f rs (or-none (f r) (any f rs) e).1)

-- a route for a cell k + 1 levels down lies within the cell, and is longer
here-within : (p k j : ℕ) → p + suc k ≤ 32 → (r : Route) → here (p + suc k) j r ≡ true → within p (j / 2 ^ suc k) r ≡ true
here-within p k j h r e =
    let s = and_split (eqb r.len (p + suc k)) (eqb (slot (p + suc k) r.addr) j) e in
    let l : r.len ≡ p + suc k = eqb-true _ _ s.0 in
    let c : slot (p + suc k) r.addr ≡ j = eqb-true _ _ s.1 in
    both (lt-ltb p r.len (omega arith)) (eq-eqb _ _ (sym (slot-up p (suc k) r.addr h) ∙ ap (λ (n : ℕ). n / 2 ^ suc k) c))

-- and so does one that lies within a cell k levels down
pub within-up : (p k j : ℕ) → p + k ≤ 32 → (r : Route) → within (p + k) j r ≡ true → within p (j / 2 ^ k) r ≡ true
within-up p k j h r e =
    let s = and_split (ltb (p + k) r.len) (eqb (slot (p + k) r.addr) j) e in
    let l : p + k < r.len = ltb-true _ _ s.0 in
    let c : slot (p + k) r.addr ≡ j = eqb-true _ _ s.1 in
    both (lt-ltb p r.len (omega arith)) (eq-eqb _ _ (sym (slot-up p k r.addr h) ∙ ap (λ (n : ℕ). n / 2 ^ k) c))

-- a long cell lies in a long cell
pub long-up : (rs : List Route) (p k j : ℕ) → p + k ≤ 32 → long rs (p + k) j ≡ true → long rs p (j / 2 ^ k) ≡ true
long-up rs p k j h e = any-mono (within (p + k) j) (within p (j / 2 ^ k)) rs (within-up p k j h) e

-- where a cell is not long, the best of all that is in it is the best of the cell
pub best-up : (rs : List Route) (p k a : ℕ) → p + k ≤ 32 → long rs p (a / 2 ^ k) ≡ false → best rs (p + k) a ≡ best rs p (a / 2 ^ k)
unfolding best
best-up rs p zero a h e = rw (add-zero p, div-one a)
best-up rs p (suc k) a h e =
    let deeper = any-mono (here (p + suc k) a) (within p (a / 2 ^ suc k)) rs (here-within p k a h) in
    let none : first (here (p + suc k) a) rs ≡ 0 = first-none (here (p + suc k) a) rs (fails _ _ deeper e) in
    ap (λ (n : ℕ). best rs n a) (add-suc p k)
    ∙ ap (λ (n : ℕ). or_else n (best rs (p + k) (a / 2))) (rw add-suc at none)
    ∙ best-up rs p k (a / 2) (omega arith) (rw half_pow e)
    ∙ ap (best rs p) (half_pow a k)

pub best-slot : (rs : List Route) (p a : ℕ) → p ≤ 32 → long rs p (slot p a) ≡ false → best rs 32 a ≡ best rs p (slot p a)
best-slot rs p a h e = ap (λ (n : ℕ). best rs n a) (omega arith) ∙ best-up rs p (32 - p) a (omega arith) e
