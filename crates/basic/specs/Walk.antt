-- The walk of a lookup, down from the longest length, in arrays of any content.
use Rattle.std.specs.Prelude.{cond, List, [], ◌∷◌, ℕ, zero, suc, ltb, Option, Some, None}
use Rattle.bits.specs.Slot.{slot}
use Rattle.routes.specs.Said.{Said, accepted, refused}
use Rattle.routes.specs.Input.{hop_fine}
use Rattle.routes.specs.declared.Route.{Route}
use Rattle.standing.specs.Cells.{here, first}
use Rattle.standing.specs.Down.{down}
use Rattle.basic.specs.Maps.{map_bit_for, cell_for}

-- what the code met, as a number: 1 + the hop, and 0 for none
abbrev pub as_met : Option ℕ → ℕ
as_met None = 0
as_met (Some h) = suc h

-- what the maps say of the first l bits of the address a: 1 + the hop in their cell where their bit is set, and 0 where it is not
unfoldable pub mapped : List ℕ → List ℕ → ℕ → ℕ → ℕ
mapped bits cells a l = cond (map_bit_for bits a l) (suc (cell_for cells a l)) 0

-- what the records say: 1 + the hop of the route that they are the prefix of, and 0 where there is none
abbrev pub list_says : List Route → ℕ → ℕ → ℕ
list_says rs a l = first (here l (slot l a)) rs

-- "basic SAIL for lengths 0 to 16", "find anything longer in the record list"
unfoldable pub level_says : List Route → List ℕ → List ℕ → ℕ → ℕ → ℕ
level_says rs bits cells a l = cond (ltb 16 l) (list_says rs a l) (mapped bits cells a l)

-- "It goes down from the longest length": all 33 lengths, level 0 among them
abbrev pub basic_walk : List Route → List ℕ → List ℕ → ℕ → ℕ
basic_walk rs bits cells a = down (level_says rs bits cells a) 33

-- "13 where the first set bit met on the way down has a hop outside 1 to 32,767"; no bit met is no route
unfoldable pub met_said : ℕ → Said
met_said zero = accepted []
met_said (suc h) = cond (hop_fine h) (accepted (h ∷ [])) (refused 13)
