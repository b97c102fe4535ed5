-- The sizes of the two sides, one after the other.
use mathlib.Core.Path.{◌≡◌, sym, ◌∙◌}
use Prim.Native.Nat.{ℕ}
use borrow.Author.Tests.{eq-eqb, ne_eqb}
use Rattle.sail.specs.Sizes.{sizes_fault, Sized, SizesTold}
use Rattle.sail.specs.declared.geometry.Geometry.{Geometry}
use Rattle.pair.specs.Party.{one, two}
use Rattle.pair.specs.PairLent.{PairLent, side}
use Rattle.pair.specs.PairSound.{pair_sizes_fault, PairSizesTold}
use Rattle.pair.proofs.Sees.{for-both}

module _ (g : Geometry) (b : PairLent) (z : ℕ) (first : SizesTold z g (side one b)) where
  pub first_off : (z ≡ 0 → ⊥) → PairSizesTold z g b
  unfolding pair_sizes_fault
  first_off n = record { number = rw (← first.number, ne_eqb z 0 n); facts = λ e. absurd (n e) }

  pub second-told : z ≡ 0 → (y : ℕ) → SizesTold y g (side two b) → PairSizesTold y g b
  unfolding pair_sizes_fault
  second-told e y second = record {
    number = rw (eq-eqb (sizes_fault g (side one b)) 0 (sym first.number ∙ e)) second.number;
    facts = λ f. for-both (λ w. Sized g (side w b)) one (first.facts e) (second.facts f);
  }
