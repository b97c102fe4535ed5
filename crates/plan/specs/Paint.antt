-- What painting does to a block of cells, and what the functions that paint ask for.
use Rattle.std.specs.Prelude.{cond, List, ℕ, ◌+◌, ◌≤◌, length, get_or}
use Rattle.bits.specs.Tab.{tabulate}
use Rattle.routes.specs.Route.{Fine}
use Rattle.standing.specs.Cells.{covers, within}
use Rattle.routes.specs.declared.Route.{Route}
use Rattle.chain.specs.Words.{route_of_word, Words}

-- cell i of level p, which holds v, with a route painted over it
unfoldable pub paint_cell : Route → ℕ → ℕ → ℕ → ℕ
paint_cell r p i v = cond (within p i r) 0 (cond (covers p i r) (32768 + r.hop) v)

-- the block of cells of level p from base on, with a route painted over it
unfoldable pub painted : List ℕ → ℕ → ℕ → Route → List ℕ
painted l p base r = tabulate (length l) (λ j. paint_cell r p (base + j) (get_or l j 0))

-- the word of a fine route, and a level
pub record Paints (w p : ℕ) : Type 0 where
  pub fine : Fine (route_of_word w)
  pub deep : p ≤ 32

-- words of fine routes in order, a level, and a hop of 15 bits
pub record Plans (ws : List ℕ) (h p : ℕ) : Type 0 where
  pub words : Words ws
  pub deep : p ≤ 32
  pub hop_ok : h ≤ 32767
