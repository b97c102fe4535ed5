-- The routes under a cell of a level, and a block of cells of a deeper level that lie in it. In the words of a good list the routes
-- under a cell are one run: `Run` of crate chain.
use Rattle.std.specs.Prelude.{cond, List, [], ◌∷◌, ℕ, ◌+◌, ◌-◌, ◌*◌, ◌^◌, ◌≤◌}
use Rattle.standing.specs.Cells.{within}
use Rattle.routes.specs.declared.Route.{Route}
use Rattle.chain.specs.Place.{InLevel}
use Rattle.chain.specs.Cover.{ChainReady}

-- the routes longer than l that have the bits of cell i of level l
unfoldable pub under : ℕ → ℕ → List Route → List Route
under l i [] = []
under l i (r ∷ rs) = cond (within l i r) (r ∷ under l i rs) (under l i rs)

-- words with their chain, and n cells of level p from base on that lie in cell i of level l
pub record Block (ws par : List ℕ) (l i p base n : ℕ) : Type 0 where
  pub ready : ChainReady ws par
  pub cell : InLevel l i
  pub deeper : l ≤ p
  pub deep : p ≤ 32
  pub from : i * 2 ^ (p - l) ≤ base
  pub to : base + n ≤ i * 2 ^ (p - l) + 2 ^ (p - l)
