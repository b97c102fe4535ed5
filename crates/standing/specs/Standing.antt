-- What stands in a list for a prefix, and the list with a route put in or a prefix taken out. A prefix goes by its key.
use Rattle.std.specs.Prelude.{Bool, cond, List, [], ◌∷◌, ℕ, eqb, ltb}
use Rattle.routes.specs.Route.{key}
use Rattle.standing.specs.Cells.{any}
use Rattle.routes.specs.declared.Route.{Route}

-- the route is the one of this prefix
abbrev pub is_at : ℕ → Route → Bool
is_at k s = eqb (key s) k

-- some route of the list has this prefix
abbrev pub stands : ℕ → List Route → Bool
stands k rs = any (is_at k) rs

-- the route that stands for this prefix
pub data Held : Type 0 where
  absent : Held
  stood : Route → Held

unfoldable pub route_at : ℕ → List Route → Held
route_at k [] = absent
route_at k (s ∷ ss) = cond (is_at k s) (stood s) (route_at k ss)

-- the list with r in its place, instead of the route of r's prefix if one stands
unfoldable pub insert : Route → List Route → List Route
insert r [] = r ∷ []
insert r (s ∷ ss) = cond (ltb (key r) (key s)) (r ∷ s ∷ ss) (cond (eqb (key s) (key r)) (r ∷ ss) (s ∷ insert r ss))

-- the list without the routes of this prefix
unfoldable pub remove : ℕ → List Route → List Route
remove k [] = []
remove k (s ∷ ss) = cond (is_at k s) (remove k ss) (s ∷ remove k ss)
