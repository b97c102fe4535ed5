-- A bit of a number, how many bits below a place are set, and a number by its bits.
use Rattle.std.specs.Prelude.{ℕ, zero, suc, ◌+◌, ◌*◌, ◌/◌, ◌%◌, ◌^◌, Bool}
use Rattle.bits.specs.Count.{bit}

-- bit k of n, counted from the least significant
abbrev pub bit_at : ℕ → ℕ → ℕ
bit_at n k = n / 2 ^ k % 2

-- how many of the bits of n below k are set
unfoldable pub rank : ℕ → ℕ → ℕ
rank n zero = 0
rank n (suc k) = rank n k + bit_at n k

-- the number whose bit k is set exactly where k is below n and passes the test
unfoldable pub packed_bits : (ℕ → Bool) → ℕ → ℕ
packed_bits f zero = 0
packed_bits f (suc n) = bit (f n) * 2 ^ n + packed_bits f n
