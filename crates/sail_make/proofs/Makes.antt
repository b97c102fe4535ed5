-- What make leaves and says.
use mathlib.Core.Path.{◌≡◌, refl, sym}
use mathlib.Core.List.{List, []}
use Prim.Native.Nat.{ℕ, zero, suc}
use lib.ListN.{length, replicate}
use Rattle.routes.specs.Said.{Said, accepted, refused}
use Rattle.sail.specs.Lent.{Lent, lent}
use Rattle.sail.specs.Sizes.{SizesTold}
use Rattle.sail.specs.Sound.{fresh_table, fresh_lent}
use Rattle.sail.specs.declared.table.Table.{Table}
use Rattle.sail_theory.specs.Calls.{or_say, make_said, out, made}
use Rattle.sail_theory.proofs.calls.Make.{make-is, make-off}

-- a number that is not 0 is a refusal
pub or-refused : (n : ℕ) (s : Said) → (n ≡ 0 → ⊥) → or_say n s ≡ refused n
or-refused zero s h = absurd (h refl)
or-refused (suc n) s h = refl

pub blank-made : (l : Lent) (list first second third own2 own3 long1 long2 : List ℕ)
    → list ≡ replicate (length l.list) 0 → first ≡ replicate (length l.first) 32768 → second ≡ replicate (length l.second) 0
    → third ≡ replicate (length l.third) 0 → own2 ≡ replicate (length l.own2) 0 → own3 ≡ replicate (length l.own3) 0
    → long1 ≡ replicate (length l.long1) 0 → long2 ≡ replicate (length l.long2) 0
    → lent list first second third own2 own3 long1 long2 ≡ fresh_lent l
unfolding fresh_lent
blank-made l list first second third own2 own3 long1 long2 a b c d e f g h =
    λ i. record { list = a i; first = b i; second = c i; third = d i; own2 = e i; own3 = f i; long1 = g i; long2 = h i }

module _ (t : Table) (l : Lent) (z : ℕ) (check : SizesTold z t.geometry l) where
  pub make-refuses : (z ≡ 0 → ⊥) → out (refused z) t l ≡ made t l
  unfolding make_said
  make-refuses h = sym (make-off t l (refused z) (rw (← check.number) (or-refused z (accepted []) h)) refl)

  pub make-makes : z ≡ 0 → (v : Lent) → v ≡ fresh_lent l → out (accepted []) (fresh_table t.geometry) v ≡ made t l
  make-makes h v e = rw e (sym (make-is t l (check.facts h)))
