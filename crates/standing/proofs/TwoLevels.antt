-- A level of p bits and one of p', which is as many or more: how many cells of the one lie in a cell of the other, and that a long cell lies
-- in a long cell.
use mathlib.Core.Path.{◌≡◌, sym, ◌∙◌, ap}
use mathlib.Core.Bool.{true, false}
use mathlib.Core.List.{List}
use Prim.Native.Nat.{ℕ, ◌+◌, ◌-◌, ◌*◌, ◌/◌, ◌^◌, ◌≤◌}
use native.Mathlib.Omega.{arith}
use lib.Pow.{pow-add}
use Rattle.bits.specs.Slot.{slot}
use Rattle.bits.proofs.Slots.{slot-up}
use Rattle.bits.proofs.Bools.{fails}
use Rattle.standing.specs.Cells.{long}
use Rattle.routes.specs.declared.Route.{Route}
use Rattle.standing.proofs.Levels.{long-up}

module _ (p p' : ℕ) (h : p ≤ p') where
  sum : p + (p' - p) ≡ p'
  sum = omega arith

  pub pow-down : 2 ^ p * 2 ^ (p' - p) ≡ 2 ^ p'
  pow-down = sym (pow-add 2 p (p' - p)) ∙ ap (λ (n : ℕ). 2 ^ n) sum

pub slot-down : (p p' a : ℕ) → p ≤ p' → p' ≤ 32 → slot p a ≡ slot p' a / 2 ^ (p' - p)
slot-down p p' a h u = sym (slot-up p (p' - p) a (omega arith)) ∙ ap (λ (n : ℕ). slot n a / 2 ^ (p' - p)) (sum p p' h)

-- a long cell lies in a long cell
pub long-down : (rs : List Route) (p p' j : ℕ) → p ≤ p' → p' ≤ 32 → long rs p' j ≡ true → long rs p (j / 2 ^ (p' - p)) ≡ true
long-down rs p p' j h u e = long-up rs p (p' - p) j (omega arith) (rw (sum p p' h) e)

pub short-down : (rs : List Route) (p p' j : ℕ) → p ≤ p' → p' ≤ 32 → long rs p (j / 2 ^ (p' - p)) ≡ false → long rs p' j ≡ false
short-down rs p p' j h u e = fails (long rs p' j) (long rs p (j / 2 ^ (p' - p))) (long-down rs p p' j h u) e
