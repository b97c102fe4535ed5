-- The first bits of an address of 32 bits.
use Rattle.std.specs.Prelude.{ℕ, ◌-◌, ◌*◌, ◌/◌, ◌^◌}

-- the first p bits of the address a, as a number: the cell of level p that a lies in
abbrev pub slot : ℕ → ℕ → ℕ
slot p a = a / 2 ^ (32 - p)

-- the first l bits of the address a, the others zero
unfoldable pub cut : ℕ → ℕ → ℕ
cut l a = slot l a * 2 ^ (32 - l)

-- the mask of a length: l ones from the top of 32 bits, zeros after them
unfoldable pub mask : ℕ → ℕ
mask l = 2 ^ 32 - 2 ^ (32 - l)
