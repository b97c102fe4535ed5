-- The layout of an announcement on an image, how a caller reads it, and what fits it. The test of an image and a withdrawal are laid out as a build
-- is (`pack_built`).
use Rattle.std.specs.Prelude.{List, [], ◌∷◌, ℕ, ◌+◌, ◌*◌, ◌%◌, ◌^◌, ◌<◌, get_or}
use Rattle.routes.specs.Said.{Said, packed, value}
use Rattle.packing.specs.Unpack.{field, unpacked}

-- bit 8 set where a hop was replaced, the hops in bits 16 to 31, the nodes in 32 to 63
abbrev pub pack_image : Said → ℕ
pack_image = packed (λ vs. value 0 vs * 256 + value 2 vs % 65536 * 65536 + value 1 vs * 2 ^ 32)

-- 1 where a hop was replaced, 0 where a route was added; then the nodes and the hops
unfoldable pub image_values : ℕ → List ℕ
image_values x = field 8 1 x ∷ field 32 32 x ∷ field 16 16 x ∷ []

abbrev pub unpack_image : ℕ → Said
unpack_image = unpacked image_values

pub data ImageFits : List ℕ → Type 0 where
  which : (b nodes hops : ℕ) → b < 2 → nodes < 2 ^ 32 → hops < 2 ^ 16 → ImageFits (b ∷ nodes ∷ hops ∷ [])

-- replaced, hops, nodes
unfoldable pub image_parts : ℕ → ℕ
image_parts x = field 8 1 x * 2 ^ 8 + field 16 16 x * 2 ^ 16 + field 32 32 x * 2 ^ 32

-- words are numbers of 32 bits: so of every `&[u32]` that is lent
pub record Words32 (ws : List ℕ) : Type 0 where
  pub each : (k : ℕ) → get_or ws k 0 < 2 ^ 32
