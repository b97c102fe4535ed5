-- The nodes of a level, in document 01's words. Those of an image are so (`level-is`).
use Rattle.std.specs.Prelude.{true, List, [], ◌∷◌, ◌≡◌, ℕ, ◌<◌, length, get_or}
use Rattle.routes.specs.declared.Route.{Route}
use Rattle.tree_image.specs.Image.{Node, node, node_stands}

-- of depth m: the root alone, or the different values of the first 4 * m bits of the routes
-- that have as many, ascending
pub record LevelOf (rs : List Route) (m : ℕ) (ns : List Node) : Type 0 where
  pub root : m ≡ 0 → ns ≡ node 0 0 ∷ []
  pub deep : (i : ℕ) → i < length ns → (get_or ns i (node 0 0)).depth ≡ m
  pub rises : (i j : ℕ) → i < j → j < length ns → (get_or ns i (node 0 0)).path < (get_or ns j (node 0 0)).path
  pub stand : (i : ℕ) → 0 < m → i < length ns → node_stands rs m (get_or ns i (node 0 0)).path ≡ true
  pub all : (p : ℕ) → node_stands rs m p ≡ true → (i : ℕ) × (i < length ns) × (get_or ns i (node 0 0) ≡ node m p)
