-- A range of a list of numbers of any width that is zero.
use Rattle.std.specs.Prelude.{◌≡◌, List, ℕ, ◌≤◌, ◌<◌, get_or}

-- every element from one place up to another is the zero of its type
pub record AllZero {A : Type 0} (zero : A) (s : List A) (from to : ℕ) : Type 0 where
  pub each : (k : ℕ) → from ≤ k → k < to → get_or s k zero ≡ zero

-- every element from one place up to another is zero
abbrev pub Zeros : List ℕ → ℕ → ℕ → Type 0
Zeros s from to = AllZero 0 s from to
