-- The counts of long routes that a table stores, by its levels.
use Rattle.std.specs.Prelude.{List, ℕ}
use Rattle.routes.specs.declared.Route.{Route}
use Rattle.sail.specs.Level.{chunks_of, level1, level2}
use Rattle.sail.specs.Sound.{Counted}
use Rattle.sail.specs.declared.geometry.Geometry.{Geometry}

-- "for each first cell, how many standing routes longer than p1 have its bits, and for each cell of the second pool how many longer than p2
-- have its place's bits, 0 in free chunks"
pub record Counts (rs : List Route) (g : Geometry) (own2 long1 long2 : List ℕ) : Type 0 where
  pub first : Counted rs (level1 g) long1
  pub second : Counted rs (level2 g (chunks_of own2)) long2
