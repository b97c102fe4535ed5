-- Marks aside: lists that differ in marks alone say the same of every cell and need as many. No test of a route looks at its mark, and
-- what is told of the route that passes is its hop.
use mathlib.Core.Path.{◌≡◌, refl, ap, ap₂}
use mathlib.Core.Bool.{Bool, not, ◌&&◌, ◌||◌, cond}
use mathlib.Core.List.{List, [], ◌∷◌, map}
use Prim.Native.Nat.{ℕ, zero, suc, ◌+◌, ◌/◌}
use lib.Dec.{ltb}
use Rattle.bits.specs.Slot.{slot}
use Rattle.bits.specs.Count.{bit}
use Rattle.routes.specs.Route.{plain}
use Rattle.routes.specs.declared.Route.{Route}
use Rattle.standing.specs.Cells.{here, within, any, first, or_else, long, best, need}

-- a test that does not look at marks
module _ (f : Route → Bool) (blind : (r : Route) → f (plain r) ≡ f r) where
  pub any-plain : (rs : List Route) → any f (map plain rs) ≡ any f rs
  unfolding any
  any-plain [] = refl
  any-plain (r ∷ rs) = ap₂ ◌||◌ (blind r) (any-plain rs)

  pub first_plain : (rs : List Route) → first f (map plain rs) ≡ first f rs
  unfolding first
  first_plain [] = refl
  first_plain (r ∷ rs) = ap₂ (λ (b : Bool) (n : ℕ). cond b (suc r.hop) n) (blind r) (first_plain rs)

module _ (rs : List Route) where
  pub long-plain : (p i : ℕ) → long (map plain rs) p i ≡ long rs p i
  long-plain p i = any-plain (within p i) (λ r. refl) rs

  pub best-plain : (p i : ℕ) → best (map plain rs) p i ≡ best rs p i
  unfolding best
  best-plain zero i = ap (λ (n : ℕ). or_else n 0) (first_plain (here zero i) (λ r. refl) rs)
  best-plain (suc p) i = ap₂ or_else (first_plain (here (suc p) i) (λ r. refl) rs) (best-plain p (i / 2))

pub need-plain : (rs : List Route) (p : ℕ) → need (map plain rs) p ≡ need rs p
unfolding need
need-plain [] p = refl
need-plain (r ∷ rs) p = ap₂ (λ (b : Bool) (n : ℕ). bit (ltb p r.len && not b) + n) (long-plain rs p (slot p r.addr)) (need-plain rs p)
