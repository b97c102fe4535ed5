-- A list of numbers of any width, written over: a range of it, or all of it.
use Rattle.std.specs.Prelude.{Bool, cond, ◌&&◌, List, ℕ, ◌≤◌, leb, ltb, length, get_or}
use Rattle.bits.specs.Tab.{tabulate}

-- i is from `from` up to `to`
abbrev pub between : ℕ → ℕ → ℕ → Bool
between from to i = leb from i && ltb i to

-- a range within n elements
pub record Range (from to n : ℕ) : Type 0 where
  pub rises : from ≤ to
  pub fits : to ≤ n

-- the list with v at each index from `from` up to `to`
unfoldable pub filled : List ℕ → ℕ → ℕ → ℕ → List ℕ
filled l from to v = tabulate (length l) (λ i. cond (between from to i) v (get_or l i 0))

-- n elements: those of s, and zeros after them
unfoldable pub padded : List ℕ → ℕ → List ℕ
padded s n = tabulate n (λ i. get_or s i 0)
