-- The count that a lookup answers, and how many of the address's first bits the answer then depends on.
use Rattle.std.specs.Prelude.{cond, List, ◌∷◌, ◌≡◌, ℕ, ◌+◌, ◌*◌, min, eqb}
use Rattle.routes.specs.Said.{Said, accepted, hop_after, no_route_after}
use Rattle.sail.specs.declared.geometry.Geometry.{Geometry}

-- an accepted lookup in a table, in n cells: a hop or no route
pub record InCells (s : Said) (n : ℕ) : Type 0 where
  pub values : List ℕ
  pub said : s ≡ accepted (n ∷ values)

-- an accepted lookup in an image, after n nodes: the count of a hop is one more, for the hop itself
pub data AfterNodes (s : Said) (n : ℕ) : Type 0 where
  hop : (h : ℕ) → s ≡ hop_after (n + 1) h → AfterNodes s n
  no_route : s ≡ no_route_after n → AfterNodes s n

-- 1, 2 or 3 cells: the first p1, p2 or 32 bits
unfoldable pub cell_bits : Geometry → ℕ → ℕ
cell_bits g n = cond (eqb n 1) g.p1 (cond (eqb n 2) g.p2 32)

-- n nodes: the first 4 n bits, and not more than there are
unfoldable pub node_bits : ℕ → ℕ
node_bits n = min (4 * n) 32
