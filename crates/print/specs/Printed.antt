-- What is printed of a record input: the text of the table that it loads, or of the refusal.
use Rattle.std.specs.Prelude.{List, ◌≡◌, ℕ, ◌*◌, ◌≤◌, ◌<◌, length, replicate}
use Rattle.routes.specs.Said.{Said, accepted, refused, refused_at}
use Rattle.sail.specs.Geometry.{small_geo}
use Rattle.sail.specs.Lent.{Lent, lent}
use Rattle.sail.specs.declared.table.Table.{Table}
use Rattle.sail_theory.specs.Calls.{Out, loaded}
use Rattle.text.specs.Text.{said_text}
use Rattle.text_pieces.specs.Wrote.{Wrote}
use Rattle.print_said.specs.Standing.{standing_text, page}

-- "lends the small geometry with room for 64 records and 4 chunks in each pool". What the arrays hold before is no matter: load reads
-- nothing of it
abbrev pub small_table : Table
small_table = record { geometry = small_geo; count = 0 }

abbrev pub small_lent : Lent
small_lent =
    lent (replicate (64 * 8) 0) (replicate 4096 0) (replicate (4 * 1024) 0) (replicate (4 * 1024) 0) (replicate 4 0) (replicate 4 0)
    (replicate 4096 0) (replicate (4 * 1024) 0)

-- a refusal's one line; where nothing is refused, the text of the table
unfoldable pub line_or : Said → List ℕ → List ℕ
line_or (accepted vs) table = table
line_or (refused n) table = said_text (refused n)
line_or (refused_at n k) table = said_text (refused_at n k)

-- the text of what a call says and leaves
unfoldable pub out_text : Out → List ℕ
out_text o = line_or o.said (standing_text o.table o.lent)

-- "loads, and prints"
unfoldable pub printed_text : List ℕ → List ℕ
printed_text input = out_text (loaded small_table small_lent input)

-- What `printed` answers and leaves: the text stands at the buffer's start, its length is answered, and the bytes after it stay. A buffer of
-- less than a page stays as it was, and the answer is 0.
pub record Printed (input before : List ℕ) (answer : ℕ) (after : List ℕ) : Type 0 where
  pub roomy : page ≤ length before → Wrote before 0 (printed_text input) answer after
  pub short : length before < page → (answer ≡ 0) × (after ≡ before)
