-- A header's first 20 bytes: what is wrong with them, and how they are lowered.
use Rattle.std.specs.Prelude.{cond, not, List, ℕ, ◌-◌, ◌/◌, ◌%◌, ◌≤◌, ◌<◌, ltb, eqb, length, get_or, set}
use Rattle.header.specs.Sums.{half_of, right_sum, mended_sum}

-- "19, fewer than 20 bytes; 20, version or header length; 21, checksum; 22, time to live 0 or 1". Version 4 and five words are the one byte 45 hex.
unfoldable pub header_fault : List ℕ → ℕ
header_fault p =
    cond (ltb (length p) 20) 19
    (cond (not (eqb (get_or p 0 0) 0x45)) 20
    (cond (not (right_sum p)) 21
    (cond (ltb (get_or p 8 0) 2) 22 0)))

-- a header with a time to live that can be lowered
pub record Lowerable (p : List ℕ) : Type 0 where
  pub room : 20 ≤ length p
  pub alive : 2 ≤ get_or p 8 0

-- the checksum mended for a time to live lowered by one, which lowers the half of bytes 8 and 9 by 256
abbrev pub new_sum : List ℕ → ℕ
new_sum p = mended_sum (half_of p 5) (half_of p 4) (half_of p 4 - 256)

-- "lowers the time to live by one and mends the checksum"
unfoldable pub lowered : List ℕ → List ℕ
lowered p = set (set (set p 8 (get_or p 8 0 - 1)) 10 (new_sum p / 256)) 11 (new_sum p % 256)

-- a packet is bytes, which the type `&[u8]` gives
pub record Packet (p : List ℕ) : Type 0 where
  pub byte : (j : ℕ) → get_or p j 0 < 256
