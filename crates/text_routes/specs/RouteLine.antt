-- A route's line.
use Rattle.std.specs.Prelude.{ℕ, cond, List, [], ◌++◌, eqb}
use Rattle.routes.specs.declared.Route.{Route}
use Rattle.text_pieces.specs.Pieces.{ascii, labelled, dotted}

-- what follows the hop: that the network is attached, where the mark is 1
unfoldable pub mark_text : ℕ → List ℕ
mark_text m = cond (eqb m 1) (ascii " attached") []

-- a route's line: prefix, hop and mark
unfoldable pub route_line : Route → List ℕ
route_line r = dotted r.addr ++ labelled "/" r.len ++ labelled " " r.hop ++ mark_text r.mark ++ ascii "\n"
