-- Two lists that differ at one prefix alone say the same of every cell but those under the prefix (`frame-best`) and those in which it lies
-- (`frame-long`).
use mathlib.Core.Path.{◌≡◌, sym, ◌∙◌, ap, ap₂}
use mathlib.Core.Bool.{Bool, false}
use mathlib.Core.List.{List}
use Prim.Native.Nat.{ℕ, zero, suc, ◌+◌, ◌-◌, ◌/◌, ◌^◌, ◌<◌}
use native.Mathlib.Nat.{div-one}
use native.Mathlib.Omega.{arith}
use lib.Dec.{eqb, ltb}
use borrow.Author.Tests.{ltb-true, eqb-true}
use Rattle.standing.specs.Cells.{here, within, any, first, or_else, long, best}
use Rattle.routes.specs.declared.Route.{Route}
use Rattle.bits.specs.Slot.{slot}
use Rattle.bits.proofs.Bools.{and_split, untrue}
use Rattle.bits.proofs.Slots.{half_pow}

-- no test that fails at the routes of this prefix tells the two lists apart
pub record SameBut (a l : ℕ) (rs rs' : List Route) : Type 0 where
  pub same_any : (f : Route → Bool) → ((r : Route) → r.addr ≡ a → r.len ≡ l → f r ≡ false) → any f rs ≡ any f rs'
  pub same_first : (f : Route → Bool) → ((r : Route) → r.addr ≡ a → r.len ≡ l → f r ≡ false) → first f rs ≡ first f rs'

module _ (a l : ℕ) (rs rs' : List Route) (b : SameBut a l rs rs') where
  -- a cell in which the prefix does not lie
  pub frame-long : (p i : ℕ) → (p < l → slot p a ≡ i → ⊥) → long rs p i ≡ long rs' p i
  frame-long p i h = b.same_any (within p i) (λ r pa pl. untrue (within p i r) (λ e.
      let s = and_split (ltb p r.len) (eqb (slot p r.addr) i) e in
      h (rw pl at (ltb-true p r.len s.0)) (rw pa at (eqb-true (slot p r.addr) i s.1))))

  here-not : (p i : ℕ) → (l ≡ p → slot p a ≡ i → ⊥) → first (here p i) rs ≡ first (here p i) rs'
  here-not p i h = b.same_first (here p i) (λ r pa pl. untrue (here p i r) (λ e.
      let s = and_split (eqb r.len p) (eqb (slot p r.addr) i) e in
      h (rw pl at (eqb-true r.len p s.0)) (rw pa at (eqb-true (slot p r.addr) i s.1))))

  -- a cell that does not lie under the prefix
  pub frame-best : (p i : ℕ) → ((k : ℕ) → l + k ≡ p → i / 2 ^ k ≡ slot l a → ⊥) → best rs p i ≡ best rs' p i
  unfolding best
  frame-best zero i h = ap (λ (n : ℕ). or_else n 0) (here-not zero i (λ e c. h 0 (omega arith) (div-one i ∙ sym c ∙ ap (λ (n : ℕ). slot n a) (sym e))))
  frame-best (suc p) i h =
      ap₂ or_else
      (here-not (suc p) i (λ e c. h 0 (omega arith) (div-one i ∙ sym c ∙ ap (λ (n : ℕ). slot n a) (sym e))))
      (frame-best p (i / 2) (λ k e c. h (suc k) (omega arith) (sym (half_pow i k) ∙ c)))
