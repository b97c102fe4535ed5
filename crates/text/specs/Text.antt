-- The text that is printed of a table, and of a refusal.
use Rattle.std.specs.Prelude.{ℕ, ◌+◌, ◌*◌, ◌≤◌, List, [], ◌∷◌, ◌++◌, length}
use Rattle.routes.specs.Said.{Said, accepted, refused, refused_at}
use Rattle.routes.specs.declared.Route.{Route}
use Rattle.text_pieces.specs.Pieces.{ascii, labelled}
use Rattle.text_routes.specs.RouteLine.{route_line}

-- a line for each route, in the order of the list
unfoldable pub route_lines : List Route → List ℕ
route_lines [] = []
route_lines (r ∷ rs) = route_line r ++ route_lines rs

-- the first line: the route count and both needs
unfoldable pub head_line : ℕ → ℕ → ℕ → List ℕ
head_line n second third = labelled "routes " n ++ labelled " second " second ++ labelled " third " third ++ ascii "\n"

unfoldable pub table_text : List Route → ℕ → ℕ → List ℕ
table_text rs second third = head_line (length rs) second third ++ route_lines rs

-- a refusal's one line: its number, and the index of a record where it carries one. What is accepted has no such line
unfoldable pub said_text : Said → List ℕ
said_text (accepted vs) = []
said_text (refused n) = labelled "refused " n ++ ascii "\n"
said_text (refused_at n k) = labelled "refused " n ++ labelled " at " k ++ ascii "\n"

-- the list has n records, and the buffer has room for their text: 64 bytes for the first line, 35 for each route's
pub record Printable (list : List ℕ) (n : ℕ) (out : List ℕ) : Type 0 where
  pub records : n * 8 ≤ length list
  pub room : 64 + 35 * n ≤ length out
