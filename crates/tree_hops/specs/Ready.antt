-- Room for one hop more in each hop base.
use Rattle.std.specs.Prelude.{List, ℕ, ◌+◌, ◌^◌, ◌<◌}
use Rattle.tree_hold.specs.Edits.{Puttable}

-- an edit may be made, and its numbers fit
pub record PutReady (ws hs : List ℕ) (n k x b : ℕ) : Type 0 where
  pub able : Puttable ws hs n k x b
  pub few : k + 1 < 2 ^ 32
