-- The parts of a number by its bytes.
use Rattle.std.specs.Prelude.{ℕ, ◌/◌, ◌%◌}

-- what stands above the lowest byte, the lowest two, three and four
abbrev pub above1 : ℕ → ℕ
above1 n = n / 256

abbrev pub above2 : ℕ → ℕ
above2 n = n / 65536

abbrev pub above3 : ℕ → ℕ
above3 n = n / 16777216

abbrev pub above4 : ℕ → ℕ
above4 n = n / 4294967296

-- the lowest byte, and the lowest two
abbrev pub byte : ℕ → ℕ
byte n = n % 256

abbrev pub half : ℕ → ℕ
half n = n % 65536
