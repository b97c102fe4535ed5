-- The text of a sound table, and what writing it asks for.
use Rattle.std.specs.Prelude.{List, ℕ, ◌+◌, ◌*◌, ◌≤◌, length}
use Rattle.standing.specs.Cells.{need}
use Rattle.sail.specs.Lent.{Lent}
use Rattle.sail.specs.Sound.{Sound, standing}
use Rattle.sail.specs.declared.table.Table.{Table}
use Rattle.text.specs.Text.{table_text}

-- "The first line gives the route count and both needs, then come prefix and hop in list order"
unfoldable pub standing_text : Table → Lent → List ℕ
standing_text t l = table_text (standing t l) (need (standing t l) t.geometry.p1) (need (standing t l) t.geometry.p2)

-- so many bytes have room for the text of any table with 64 routes
abbrev pub page : ℕ
page = 4096

-- What the text of a table's routes asks for: 64 bytes for the first line, 35 for each route's.
pub record PageReady (t : Table) (l : Lent) (before : List ℕ) : Type 0 where
  pub sound : Sound t l
  pub room : 64 + 35 * t.count ≤ length before
