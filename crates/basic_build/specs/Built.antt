-- What a build answers, and what the two arrays then hold.
use Rattle.std.specs.Prelude.{cond, List, [], ◌≡◌, ℕ, leb, length, set}
use Rattle.bits.specs.Slot.{slot}
use Rattle.routes.specs.Record.{routes_in}
use Rattle.routes.specs.Said.{Said, accepted, refused, refused_at}
use Rattle.routes.specs.declared.Route.{Route}
use Rattle.basic.specs.Maps.{map_place, map_cells, map_bits}
use Rattle.basic.specs.Calls.{ready_said}
use Rattle.basic.specs.Meaning.{Unready, Prepared}

-- what is told, and what the bits and the cells are at the end
pub record MapsOut : Type 0 where
  pub said : Said
  pub bits : List ℕ
  pub cells : List ℕ

abbrev pub maps_out : Said → List ℕ → List ℕ → MapsOut
maps_out x bs cs = record { said = x; bits = bs; cells = cs }

-- a refusal leaves the arrays as they were; otherwise they are the maps of the routes
abbrev pub maps_after : Said → List Route → List ℕ → List ℕ → MapsOut
maps_after (accepted vs) rs bs cs = maps_out (accepted []) (map_bits (map_cells rs)) (map_cells rs)
maps_after (refused n) rs bs cs = maps_out (refused n) bs cs
maps_after (refused_at n k) rs bs cs = maps_out (refused_at n k) bs cs

-- "Refusals, in order: the record input's; 2 for another array size"
unfoldable pub basic_built : List ℕ → List ℕ → List ℕ → MapsOut
basic_built s bs cs = maps_after (ready_said s (length bs) (length cs)) (routes_in s) bs cs

-- the cells with the hop of a route in its place, where it has at most 16 bits
unfoldable pub with_route : Route → List ℕ → List ℕ
with_route r cells = cond (leb r.len 16) (set cells (map_place r.len (slot r.len r.addr)) r.hop) cells

-- the arrays are the maps of these routes
pub record MapsFilled (rs : List Route) (bs cs : List ℕ) : Type 0 where
  pub bits : bs ≡ map_bits (map_cells rs)
  pub cells : cs ≡ map_cells rs

-- what a build can say, in order, with all that then holds
pub data BasicBuild (s bs cs : List ℕ) : Said → Type 0 where
  unready : (x : Said) → Unready s bs cs x → BasicBuild s bs cs x
  done : Prepared s bs cs → BasicBuild s bs cs (accepted [])
