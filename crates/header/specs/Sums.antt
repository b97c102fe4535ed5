-- Sums of halves of 16 bits in ones' complement (RFC 1071), and how a checksum is mended (RFC 1624).
use Rattle.std.specs.Prelude.{Bool, cond, List, ◌≡◌, ℕ, zero, suc, ◌+◌, ◌-◌, ◌*◌, ◌/◌, ◌%◌, ◌≤◌, ◌<◌, eqb}
use Rattle.routes.specs.Record.{word16}

-- half i of a packet: two bytes, the first the higher
abbrev pub half_of : List ℕ → ℕ → ℕ
half_of p i = word16 p (2 * i)

-- the sum of two halves, and that of the first n: a carry out of the top is added at the bottom
abbrev pub oplus : ℕ → ℕ → ℕ
oplus x y = (x + y) % 65536 + (x + y) / 65536

unfoldable pub ones_sum : (ℕ → ℕ) → ℕ → ℕ
ones_sum f zero = 0
ones_sum f (suc n) = oplus (ones_sum f n) (f n)

-- "the header checksum (RFC 791)" is right: the sum of all ten halves is FFFF, one of the two zeros
abbrev pub right_sum : List ℕ → Bool
right_sum p = eqb (ones_sum (half_of p) 10) 65535

-- the halves, with the checksum's own field taken as zero
abbrev pub but_sum : List ℕ → ℕ → ℕ
but_sum p i = cond (eqb i 5) 0 (half_of p i)

-- "one worked out afresh": the complement of the sum of these halves
unfoldable pub fresh_sum : List ℕ → ℕ
fresh_sum p = 65535 - ones_sum (but_sum p) 10

-- RFC 1624, equation 3, when half m becomes m': ~(~hc + ~m + m')
unfoldable pub mended_sum : ℕ → ℕ → ℕ → ℕ
mended_sum hc m m' = 65535 - oplus (oplus (65535 - hc) (65535 - m)) m'

-- What these mean. The plain sum of the first n:
unfoldable pub plain_sum : (ℕ → ℕ) → ℕ → ℕ
plain_sum f zero = 0
plain_sum f (suc n) = plain_sum f n + f n

-- y is the plain sum s modulo 65,535 (so many times FFFF less), and 0 for a sum of 0 alone
pub record Folds (s y : ℕ) : Type 0 where
  pub small : y ≤ 65535
  pub some : 0 < s → 0 < y
  pub carries : ℕ
  pub sum : s ≡ y + 65535 * carries

-- "equal in ones' complement value": 0000 and FFFF are both zero, and any other number is its own value
pub data SameValue : ℕ → ℕ → Type 0 where
  equal : {x : ℕ} → SameValue x x
  low_high : SameValue 0 65535
  high_low : SameValue 65535 0
