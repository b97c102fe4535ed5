-- A test of whether two values are the same.
use Rattle.std.specs.Prelude.{◌≡◌, refl, ℕ, eqb, Bool, true}
use borrow.Author.Tests.{eqb-true, eq-eqb}

-- what the test finds equal is the same, and a value is equal to itself
pub record EqualIsSame {K : Type 0} (equal : K → K → Bool) : Type 0 where
  pub same : (x y : K) → equal x y ≡ true → x ≡ y
  pub self : (x : K) → equal x x ≡ true

-- `==` of numbers is such a test
pub numbers-equal : EqualIsSame eqb
numbers-equal = record { same = λ x y e. eqb-true x y e; self = λ x. eq-eqb x x refl }
