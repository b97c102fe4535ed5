-- How the answer of a broadcast is laid out and read, what fits it, and its sum by fields.
use Rattle.std.specs.Prelude.{List, [], ◌∷◌, ℕ, ◌*◌, ◌^◌, ◌<◌}
use Rattle.routes.specs.Said.{Said, packed, value}
use Rattle.packing.specs.Unpack.{field, unpacked}

-- bit 8 set where the address is a broadcast
abbrev pub pack_cast : Said → ℕ
pack_cast = packed (λ vs. value 0 vs * 256)

unfoldable pub cast_values : ℕ → List ℕ
cast_values x = field 8 1 x ∷ []

abbrev pub unpack_cast : ℕ → Said
unpack_cast = unpacked cast_values

pub data CastFits : List ℕ → Type 0 where
  which : (b : ℕ) → b < 2 → CastFits (b ∷ [])

unfoldable pub cast_parts : ℕ → ℕ
cast_parts x = field 8 1 x * 2 ^ 8
