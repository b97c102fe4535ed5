-- How the answers of the writer and of a message are laid out and read, what fits them, and their sums by fields.
use Rattle.std.specs.Prelude.{cond, List, [], ◌∷◌, ℕ, ◌+◌, ◌*◌, ◌%◌, ◌^◌, ◌≤◌, ◌<◌, eqb}
use Rattle.routes.specs.Said.{Said, accepted, refused, refused_at, packed, value}
use Rattle.packing.specs.Unpack.{field, unpacked}

-- the writer: the bytes of the field in bits 32 to 63
abbrev pub pack_written : Said → ℕ
pack_written = packed (λ vs. value 0 vs % 2 ^ 32 * 2 ^ 32)

-- A message: the routes after the call in bits 16 to 31, the entries in 32 to 63. A refusal for room has its number and bit 8 too, since what it leaves
-- is as after those entries; any other has its number alone.
unfoldable pub pack_update : ℕ → Said → ℕ
pack_update count (accepted vs) = count % 65536 * 65536 + value 0 vs * 2 ^ 32
pack_update count (refused n) = n
pack_update count (refused_at n k) = n + 256 + (count % 65536 * 65536 + k * 2 ^ 32)

-- the bytes, or the entries
unfoldable pub high_values : ℕ → List ℕ
high_values x = field 32 32 x ∷ []

abbrev pub unpack_written : ℕ → Said
unpack_written = unpacked high_values

abbrev pub unpack_update : ℕ → Said
unpack_update = unpacked high_values

-- what fits
pub data WrittenFits : List ℕ → Type 0 where
  bytes : (n : ℕ) → n < 2 ^ 32 → WrittenFits (n ∷ [])

-- with the route count that the same answer carries
pub data UpdateFits (count : ℕ) : Said → Type 0 where
  done : (k : ℕ) → k < 2 ^ 32 → count < 2 ^ 16 → UpdateFits count (accepted (k ∷ []))
  stopped : (n k : ℕ) → 1 ≤ n → n < 2 ^ 8 → k < 2 ^ 32 → count < 2 ^ 16 → UpdateFits count (refused_at n k)
  off : (n : ℕ) → 1 ≤ n → n < 2 ^ 8 → UpdateFits count (refused n)

-- the writer's answer by its fields: the bytes
unfoldable pub written_parts : ℕ → ℕ
written_parts x = field 32 32 x * 2 ^ 32

-- a message's: routes and entries; with a number and bit 8 where it stopped; or the number alone
unfoldable pub update_parts : ℕ → ℕ
update_parts x =
    cond (eqb (field 0 8 x) 0)
    (field 16 16 x * 2 ^ 16 + field 32 32 x * 2 ^ 32)
    (cond (eqb (field 8 1 x) 1) (field 0 8 x + 2 ^ 8 + field 16 16 x * 2 ^ 16 + field 32 32 x * 2 ^ 32) (field 0 8 x))
