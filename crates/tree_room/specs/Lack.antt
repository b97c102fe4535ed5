-- What w words and h hops lack for an image of n nodes and k routes, with its reason: 11 for whole nodes, 12 for hops, 0 where there is room.
use Rattle.std.specs.Prelude.{ℕ, ◌/◌, ◌≤◌, ◌<◌}

pub data Lack (w h n k : ℕ) : ℕ → Type 0 where
  short_nodes : w / 3 < n → Lack w h n k 11
  short_hops : n ≤ w / 3 → h < k → Lack w h n k 12
  has_room : n ≤ w / 3 → k ≤ h → Lack w h n k 0
