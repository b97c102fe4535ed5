-- A list of elements of any type, some of which are moved by some places over those that stand there.
use Rattle.std.specs.Prelude.{cond, List, ℕ, ◌+◌, ◌-◌, ◌≤◌, length, get_or}
use Rattle.bits.specs.Tab.{tabulate}
use Rattle.buffers.specs.Fill.{between}

-- s, where each element from a on and before e is drawn from another place of s; one past its end would be d
unfoldable pub drawn : {A : Type 0} → A → List A → ℕ → ℕ → (ℕ → ℕ) → List A
drawn d s a e from = tabulate (length s) (λ j. cond (between a e j) (get_or s (from j) d) (get_or s j d))

-- the elements from a on and before e, moved up by n places
abbrev pub shifted_up : {A : Type 0} → A → List A → ℕ → ℕ → ℕ → List A
shifted_up d s a e n = drawn d s (a + n) (e + n) (λ j. j - n)

-- the elements from a on and before e become those n places further on
abbrev pub shifted_down : {A : Type 0} → A → List A → ℕ → ℕ → ℕ → List A
shifted_down d s a e n = drawn d s a e (λ j. j + n)

-- these two for numbers
abbrev pub moved_up : List ℕ → ℕ → ℕ → ℕ → List ℕ
moved_up s a e n = shifted_up 0 s a e n

abbrev pub moved_down : List ℕ → ℕ → ℕ → ℕ → List ℕ
moved_down s a e n = shifted_down 0 s a e n

-- the elements from a on and before e have d places after them, within n elements
pub record Movable (a e d n : ℕ) : Type 0 where
  pub rises : a ≤ e
  pub room : e + d ≤ n
