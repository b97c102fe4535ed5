-- What it is for an address to be served by the routes that stand. Demand 2 speaks of this.
use Rattle.std.specs.Prelude.{false, cond, ◌≡◌, ℕ, eqb}
use mathlib.Core.List.{List, [], ◌∷◌, Memᴰ}
use Rattle.routes.specs.Said.{Said, accepted, refused, refused_at, hop_after, no_route_after}
use Rattle.routes.specs.declared.Route.{Route}
use Rattle.standing.specs.Cells.{covers, Longest}

-- What is said of the address a, after n reads, where the routes rs stand: the hop of a route that covers a, than which no route that covers a
-- is longer; or no route, and then none covers.
pub data Served (rs : List Route) (a n : ℕ) : Said → Type 0 where
  hop : (h : ℕ) → Longest rs 32 a h → Served rs a n (hop_after n h)
  no_route : ((r : Route) → Memᴰ r rs → covers 32 a r ≡ false) → Served rs a n (no_route_after n)

-- after n reads: n and the hop; n alone where the hop is 0, which is no route
unfoldable pub hop_said : ℕ → ℕ → Said
hop_said n h = cond (eqb h 0) (no_route_after n) (hop_after n h)

-- what is said with its count left out: the hop alone, or nothing
abbrev pub uncounted : Said → Said
uncounted (accepted []) = accepted []
uncounted (accepted (n ∷ vs)) = accepted vs
uncounted (refused k) = refused k
uncounted (refused_at k i) = refused_at k i
