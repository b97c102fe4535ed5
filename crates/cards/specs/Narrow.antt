-- What is asked of a call for a number of it to be narrowed.
use Rattle.std.specs.Prelude.{◌≡◌, ℕ, ◌<◌}

-- f is the same of all numbers over the limit
abbrev pub AlikeOver : {A : Type 0} → ℕ → (ℕ → A) → Type 0
AlikeOver limit f = (x y : ℕ) → limit < x → limit < y → f x ≡ f y
