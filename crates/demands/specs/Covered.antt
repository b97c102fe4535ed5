-- That an address is covered.
use Rattle.std.specs.Prelude.{true, ◌≡◌, ℕ}
use mathlib.Core.List.{List, Memᴰ}
use Rattle.routes.specs.declared.Route.{Route}
use Rattle.standing.specs.Cells.{covers}

-- some of these routes covers the address
abbrev pub Covered : List Route → ℕ → Type 0
Covered rs a = (r : Route) × Memᴰ r rs × (covers 32 a r ≡ true)
