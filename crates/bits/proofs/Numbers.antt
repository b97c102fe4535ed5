-- What a test tells that finds equal what is the same.
use mathlib.Core.Path.{◌≡◌, refl, sym, ◌∙◌}
use mathlib.Core.Bool.{Bool, true, false, not, true≢false}
use borrow.Author.Tests.{not-true, not-false}
use Rattle.bits.specs.Number.{EqualIsSame}

module _ {A : Type 0} {equal : A → A → Bool} (law : EqualIsSame equal) {x y : A} where
  pub told_apart : not (equal x y) ≡ true → x ≡ y → ⊥
  told_apart n e =
      let f : equal x y ≡ false = not-true (equal x y) n in
      let t : equal x y ≡ true = rw e (law.self y) in
      true≢false (sym t ∙ f)

  pub told-same : not (equal x y) ≡ false → x ≡ y
  told-same n = law.same x y (not-false (equal x y) n)
