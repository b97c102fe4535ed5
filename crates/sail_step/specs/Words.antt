-- An address on its way through a table: the word that stands for it is that of the cell last read for it.
use Rattle.std.specs.Prelude.{◌≡◌, ℕ, ◌+◌, ◌-◌, ◌*◌, ◌/◌, ◌%◌, ◌^◌, ◌<◌, ◌≤◌, cond, List, length, ◌==◌, nat_le, slice_index, slice_set}
use Rattle.bits.specs.Slot.{slot}
use Rattle.sail.specs.Walk.{cell_place, one_of}

-- The word of a cell v that was read as the n-th: the cell with its top bit turned in bits 16 to 31, and n in bits 8 to 15. So a leaf's
-- word is what the lookup answers, and is below 2 ^ 31; any other is not.
abbrev pub cell_word : ℕ → ℕ → ℕ
cell_word n v = (v + 32768) % 65536 * 65536 + n * 256

-- the chunk that a word leads to; 0, which is none, where it is an answer
abbrev pub chunk_of_word : ℕ → ℕ
chunk_of_word w = w / 65536 - 32768

-- the word of the first cell of the address a
abbrev pub word1 : ℕ → List ℕ → ℕ → ℕ
word1 p1 first a = cell_word 1 (slice_index first (slot p1 a))

-- from that the word of its second cell, where the first leads to one of m chunks
unfoldable pub word2 : ℕ → ℕ → List ℕ → ℕ → ℕ → ℕ → ℕ
word2 p1 p2 second m a w = cond (one_of m (chunk_of_word w)) (cell_word 2 (slice_index second (cell_place (p2 - p1) (chunk_of_word w) (slot p2 a)))) w

-- a third cell is a leaf, or damaged
unfoldable pub third_word : ℕ → ℕ
third_word v = cond (nat_le 32768 v) (cell_word 3 v) 5

-- from that the answer: what is one already stays; a second cell may lead to a third; whatever else leads nowhere is refused with 5
unfoldable pub word3 : ℕ → List ℕ → ℕ → ℕ → ℕ → ℕ
word3 p2 third m a w =
    cond (nat_le 2147483648 w)
    (cond (w / 256 % 256 == 2) (cond (one_of m (chunk_of_word w)) (third_word (slice_index third (cell_place (32 - p2) (chunk_of_word w) a))) 5) 5)
    w

-- the same for the address at place k
abbrev pub step1 : ℕ → List ℕ → List ℕ → ℕ → ℕ
step1 p1 first ads k = word1 p1 first (slice_index ads k)

abbrev pub step2 : ℕ → ℕ → List ℕ → ℕ → List ℕ → ℕ → ℕ → ℕ
step2 p1 p2 second m ads k w = word2 p1 p2 second m (slice_index ads k) w

abbrev pub step3 : ℕ → List ℕ → ℕ → List ℕ → ℕ → ℕ → ℕ
step3 p2 third m ads k w = word3 p2 third m (slice_index ads k) w

-- the word at place j goes one step on
unfoldable pub put : (ℕ → ℕ → ℕ) → ℕ → List ℕ → List ℕ
put f j out = slice_set out j (f j (slice_index out j))

-- one turn: the address at j + 16 enters, the one at j + 8 goes down, the one at j is settled
unfoldable pub turned : (ℕ → ℕ) → (ℕ → ℕ → ℕ) → (ℕ → ℕ → ℕ) → ℕ → List ℕ → List ℕ
turned f1 f2 f3 j out = put f3 j (put f2 (j + 8) (put (λ k _. f1 k) (j + 16) out))

-- n cells are the first cells of level p1
pub record Firsts (p1 n : ℕ) : Type 0 where
  pub low : 12 ≤ p1
  pub high : p1 ≤ 16
  pub cells : n ≡ 2 ^ p1

-- n cells are m chunks of 2 ^ k cells
pub record Whole (n m k : ℕ) : Type 0 where
  pub cells : n ≡ m * 2 ^ k
  pub few : m ≤ 4096
  pub size : k ≤ 10

-- c is the chunk, counted from 0, that the word w leads to; beyond all chunks where it leads to none
pub record Points (c w : ℕ) : Type 0 where
  pub wraps : (c + 32769) % 2 ^ 64 ≡ w / 65536
  pub fits : c < 2 ^ 64
  pub word : w < 2 ^ 32

-- there is an address at j, and a word for each address
pub record Spot (j : ℕ) (ads out : List ℕ) : Type 0 where
  pub inside : j < length ads
  pub even : length out ≡ length ads

-- a second level below the first
pub record Below (p1 p2 : ℕ) : Type 0 where
  pub deeper : p1 ≤ p2
  pub low : 22 ≤ p2
  pub high : p2 ≤ 26

-- three levels of the right sizes
pub record LevelsReady (p1 p2 : ℕ) (first second : List ℕ) (m2 : ℕ) (third : List ℕ) (m3 : ℕ) : Type 0 where
  pub firsts : Firsts p1 (length first)
  pub below : Below p1 p2
  pub seconds : Whole (length second) m2 (p2 - p1)
  pub thirds : Whole (length third) m3 (32 - p2)
