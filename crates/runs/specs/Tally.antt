-- The tally of an input.
use Rattle.std.specs.Prelude.{ℕ, zero, suc, ◌+◌, ◌/◌, ◌≡◌, Bool, cond, List, eqb, length, replicate}
use Rattle.bits.specs.Tab.{tabulate}
use Rattle.bits.specs.Count.{count}
use Rattle.routes.specs.Record.{record_at}
use Rattle.routes.specs.Input.{input_said}
use Rattle.routes.specs.Answers.{means_input}
use Rattle.routes.specs.Said.{accepts}
use Rattle.runs.specs.declared.tally.Tallied.{Tallied}

-- record k has the length l
abbrev pub has_length : List ℕ → ℕ → ℕ → Bool
has_length s l k = eqb (record_at s k).len l

-- how many of n records have each of the lengths 0 to 32
unfoldable pub lengths_of : List ℕ → ℕ → List ℕ
lengths_of s n = tabulate 33 (λ l. count (has_length s l) n)

-- the counts of all records of an input; zeros where it is refused
unfoldable pub tally_of : List ℕ → List ℕ
tally_of s = cond (accepts (input_said s)) (lengths_of s (length s / 8)) (replicate 33 0)

-- what the check of the input says, and the counts
pub record IsTally (s : List ℕ) (t : Tallied) : Type 0 where
  pub answered : means_input t.answer ≡ input_said s
  pub counted : t.counts ≡ tally_of s

-- f 0 + f 1 + .. + f (n - 1)
unfoldable pub sum_below : (ℕ → ℕ) → ℕ → ℕ
sum_below f zero = 0
sum_below f (suc n) = f n + sum_below f n
