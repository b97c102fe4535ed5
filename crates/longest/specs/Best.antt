-- The longest route that covers an address, as a route: `best` of standing/specs/Cells.antt tells its hop.
use Rattle.std.specs.Prelude.{true, false, cond, ◌≡◌, ℕ, ◌≤◌, ltb}
use mathlib.Core.List.{List, [], ◌∷◌, Memᴰ}
use Rattle.routes.specs.declared.Route.{Route}
use Rattle.standing.specs.Cells.{covers}
use Rattle.standing.specs.Standing.{Held, absent, stood}

-- a route, or what was found among the others, if it is longer
abbrev pub longer_of : Route → Held → Held
longer_of r absent = stood r
longer_of r (stood t) = cond (ltb r.len t.len) (stood t) (stood r)

-- of the routes that cover the address a, the longest
unfoldable pub best_route : List Route → ℕ → Held
best_route [] a = absent
best_route (r ∷ rs) a = cond (covers 32 a r) (longer_of r (best_route rs a)) (best_route rs a)

-- its hop, and 0 where there is none
abbrev pub hop_or0 : Held → ℕ
hop_or0 absent = 0
hop_or0 (stood r) = r.hop

-- the route covers the address, and no route that covers it is longer
pub record LongestRoute (rs : List Route) (a : ℕ) (r : Route) : Type 0 where
  pub listed : Memᴰ r rs
  pub covering : covers 32 a r ≡ true
  pub longest : (t : Route) → Memᴰ t rs → covers 32 a t ≡ true → t.len ≤ r.len

-- or no route covers it
pub data BestRoute (rs : List Route) (a : ℕ) : Held → Type 0 where
  none : ((r : Route) → Memᴰ r rs → covers 32 a r ≡ false) → BestRoute rs a absent
  one : (r : Route) → LongestRoute rs a r → BestRoute rs a (stood r)
