-- How a caller reads the answer of a lookup in bit maps, what fits it, and its sum by fields. Its layout is `pack_hop` in basic/specs/Calls.antt.
use Rattle.std.specs.Prelude.{cond, List, [], ◌∷◌, ℕ, ◌*◌, ◌^◌, ◌≤◌, ◌<◌, eqb}
use Rattle.routes.specs.Said.{Said}
use Rattle.packing.specs.Unpack.{field, unpacked}

-- the hop; hop 0 is no route
unfoldable pub hop_values : ℕ → List ℕ
hop_values x = cond (eqb (field 16 16 x) 0) [] (field 16 16 x ∷ [])

abbrev pub unpack_hop : ℕ → Said
unpack_hop = unpacked hop_values

pub data HopFits : List ℕ → Type 0 where
  hop : (h : ℕ) → 1 ≤ h → h < 2 ^ 16 → HopFits (h ∷ [])
  none : HopFits []

-- the hop
unfoldable pub hop_parts : ℕ → ℕ
hop_parts x = field 16 16 x * 2 ^ 16

-- a call that says no values
pub data NoneFits : List ℕ → Type 0 where
  none : NoneFits []
