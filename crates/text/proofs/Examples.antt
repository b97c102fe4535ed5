-- The text that is printed of document 01's list A, of a list with an attached route, and of refusals.
use mathlib.Core.Path.{◌≡◌, refl}
use mathlib.Core.List.{List, [], ◌∷◌, ◌++◌}
use Prim.Native.Nat.{ℕ}
use Rattle.bits.specs.Tab.{tabulate}
use Rattle.routes.specs.declared.Route.{Route}
use Rattle.routes.specs.Record.{record_at, routes_of}
use Rattle.routes.specs.ListA.{list_a}
use Rattle.standing.specs.Cells.{need, any}
use Rattle.routes.specs.Said.{refused, refused_at}
use Rattle.text_pieces.specs.Digits.{digits_in, digits_of}
use Rattle.text_pieces.specs.Pieces.{ascii, labelled, dotted}
use Rattle.text_routes.specs.RouteLine.{mark_text, route_line}
use Rattle.text.specs.Text.{route_lines, head_line, table_text, said_text}

abbrev pub routes_a : List Route
routes_a = routes_of list_a 5

-- all of what is printed in the small geometry, with its needs
pub list-A : table_text routes_a (need routes_a 12) (need routes_a 22) ≡
    ascii "routes 5 second 1 third 1\n"
    ++ ascii "0.0.0.0/0 6\n"
    ++ ascii "10.0.0.0/8 20\n"
    ++ ascii "10.1.0.0/16 31\n"
    ++ ascii "10.1.2.0/24 44\n"
    ++ ascii "10.1.2.128/25 57\n"
unfolding list_a routes_of record_at tabulate need any digits_in digits_of ascii labelled dotted mark_text route_line route_lines head_line table_text
list-A = refl

-- an attached network beside one behind a neighbour
bytes_b : List ℕ
bytes_b = (10 ∷ 1 ∷ 0 ∷ 0 ∷ 16 ∷ 1 ∷ 0 ∷ 31 ∷ []) ++ (10 ∷ 1 ∷ 2 ∷ 0 ∷ 24 ∷ 0 ∷ 0 ∷ 44 ∷ [])

pub list_b : List Route
list_b = routes_of bytes_b 2

pub attached : table_text list_b (need list_b 12) (need list_b 22) ≡
    ascii "routes 2 second 1 third 1\n"
    ++ ascii "10.1.0.0/16 31 attached\n"
    ++ ascii "10.1.2.0/24 44\n"
unfolding bytes_b list_b routes_of record_at tabulate need any digits_in digits_of ascii labelled dotted mark_text route_line route_lines head_line table_text
attached = refl

-- list A's needs are equal, these are not: each stands at its own place
pub head-line : head_line 3 2 1 ≡ ascii "routes 3 second 2 third 1\n"
unfolding digits_in digits_of ascii labelled head_line
head-line = refl

pub refusals : (said_text (refused_at 10 3) ≡ ascii "refused 10 at 3\n") × (said_text (refused 7) ≡ ascii "refused 7\n")
unfolding digits_in digits_of ascii labelled said_text
refusals = (refl, refl)
