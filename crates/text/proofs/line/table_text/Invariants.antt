-- `text::line::table_text`: The invariant: the lines of the first k records are written, and there is room for the others.
use Prim.Native.Nat.{◌+◌, ◌-◌, ◌*◌, ◌≤◌}
use lib.ListN.{length}
use Rattle.routes.specs.Record.{routes_of}
use Rattle.text.specs.Text.{route_lines}
use Rattle.text_pieces.specs.Page.{Writes}
use Rattle.text.proofs.line.table_text.Given as goal

abbrev pub invariant-loop-k : goal.invariant-loop-k
invariant-loop-k l =
    (l.page.at + 35 * (l.n - l.k) ≤ length l.page.out.now) × Writes l.initial.page (route_lines (routes_of l.list l.k)) l.page
