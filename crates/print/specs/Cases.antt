-- What is printed of a record input, case by case, in document 01's words.
use Rattle.std.specs.Prelude.{List, ◌++◌, ◌≡◌, ℕ, ◌/◌, ◌%◌, ◌≤◌, ◌<◌, length}
use Rattle.standing.specs.Cells.{need}
use Rattle.routes.specs.Said.{refused_at}
use Rattle.routes.specs.Cases.{RightRecord, Checked}
use Rattle.sail_theory.specs.Calls.{input_routes}
use Rattle.text_pieces.specs.Pieces.{ascii, labelled}
use Rattle.text.specs.Text.{route_lines}

-- whole records, each fine and after the one before it
pub record AllRight (input : List ℕ) : Type 0 where
  pub whole : length input % 8 ≡ 0
  pub each : (k : ℕ) → k < length input / 8 → RightRecord input k

abbrev pub records : List ℕ → ℕ
records input = length input / 8

-- the needs of the input's routes in the small geometry, (12, 22)
abbrev pub second : List ℕ → ℕ
second input = need (input_routes input) 12

abbrev pub third : List ℕ → ℕ
third input = need (input_routes input) 22

-- One of these holds of every input, and what is printed is its text (`printed-judged`). `Checked` has what is wrong with the length of an
-- input or with a record, with its number and its index.
pub data Prints (input : List ℕ) : List ℕ → Type 0 where
  fault : (n k : ℕ) → Checked input (refused_at n k) → Prints input (labelled "refused " n ++ labelled " at " k ++ ascii "\n")
  six : AllRight input → 64 < records input → Prints input (ascii "refused 6\n")
  seven : AllRight input → records input ≤ 64 → 4 < second input → Prints input (ascii "refused 7\n")
  eight : AllRight input → records input ≤ 64 → second input ≤ 4 → 4 < third input → Prints input (ascii "refused 8\n")
  table : AllRight input → records input ≤ 64 → second input ≤ 4 → third input ≤ 4
      → Prints input (labelled "routes " (records input) ++ labelled " second " (second input) ++ labelled " third " (third input) ++ ascii "\n"
      ++ route_lines (input_routes input))
