-- The longest of n records that covers an address, and how many first bits two addresses share.
use Rattle.std.specs.Prelude.{true, false, List, ◌≡◌, ℕ, ◌≤◌, ◌<◌, Option, Some, None}
use Rattle.bits.specs.Slot.{slot}
use Rattle.routes.specs.Record.{record_at}
use Rattle.standing.specs.Cells.{covers}

-- record k covers the address a, has at least `low` bits, and no record among n that covers the address is longer
pub record LongestAt (s : List ℕ) (n a low k : ℕ) : Type 0 where
  pub covering : covers 32 a (record_at s k) ≡ true
  pub enough : low ≤ (record_at s k).len
  pub longest : (j : ℕ) → j < n → covers 32 a (record_at s j) ≡ true → (record_at s j).len ≤ (record_at s k).len

-- the index of that record; or none, and no record of at least `low` bits covers the address
pub data LongestRecord (s : List ℕ) (n a low : ℕ) : Option ℕ → Type 0 where
  one : (k : ℕ) → k < n → LongestAt s n a low k → LongestRecord s n a low (Some k)
  none : ((k : ℕ) → k < n → low ≤ (record_at s k).len → covers 32 a (record_at s k) ≡ false) → LongestRecord s n a low None

-- the first r bits of two addresses are the same, and no more are
pub record Shared (a b r : ℕ) : Type 0 where
  pub most : r ≤ 32
  pub same : (l : ℕ) → l ≤ r → slot l a ≡ slot l b
  pub more : (l : ℕ) → r < l → l ≤ 32 → slot l a ≡ slot l b → ⊥
