-- Room for one node more in each child base: an image of at most 4,096 routes has at most 32,769 nodes.
use Rattle.std.specs.Prelude.{List, ℕ, ◌+◌, ◌^◌, ◌<◌}
use Rattle.tree_hold.specs.Edits.{Graftable}

-- an edit may be made, and its numbers fit
pub record GraftReady (ws : List ℕ) (n k x c : ℕ) : Type 0 where
  pub able : Graftable ws n k x c
  pub few : n + 1 < 2 ^ 32
  pub hops_few : k < 2 ^ 32
