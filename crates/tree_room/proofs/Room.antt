-- Where nothing is lacking there is room.
use mathlib.Core.Path.{◌≡◌}
use Prim.Native.Nat.{ℕ, ◌/◌, ◌≤◌}
use native.Mathlib.Omega.{arith}
use Rattle.tree_room.specs.Lack.{Lack, short_nodes, short_hops, has_room}

pub room-is : {w h n k f : ℕ} → Lack w h n k f → f ≡ 0 → (n ≤ w / 3) × (k ≤ h)
room-is (short_nodes l) e = absurd (omega arith)
room-is (short_hops l u) e = absurd (omega arith)
room-is (has_room l u) e = (l, u)
