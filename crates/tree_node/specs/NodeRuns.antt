-- The run of a node: the records whose routes pass through it.
use Rattle.std.specs.Prelude.{Bool, true, false, cond, List, ◌≡◌, ℕ, ◌+◌, ◌-◌, ◌*◌, ◌/◌, ◌%◌, ◌^◌, ◌≤◌, ◌<◌, ltb, eqb, length}
use Rattle.bits.specs.Slot.{slot}
use Rattle.bits.specs.Bit.{bit_at}
use Rattle.routes.specs.Record.{record_at, Records, routes_in}
use Rattle.tree_image.specs.Image.{Node, node, inner, child, word, through, node_stands, hop_for}

-- which nodes stand, and the hop of a prefix, by the routes of an input
abbrev pub stands_in : List ℕ → ℕ → ℕ → Bool
stands_in s = node_stands (routes_in s)

abbrev pub hop_in : List ℕ → ℕ → ℕ → ℕ
hop_in s = hop_for (routes_in s)

-- the first 4 * m bits of record k, and the node that they lead to
abbrev pub path_at : List ℕ → ℕ → ℕ → ℕ
path_at s m k = slot (4 * m) (record_at s k).addr

abbrev pub node_at : List ℕ → ℕ → ℕ → Node
node_at s m k = node m (path_at s m k)

-- record k passes through the node of depth m for the path p
abbrev pub through_at : List ℕ → ℕ → ℕ → ℕ → Bool
through_at s m p k = through m p (record_at s k)

-- the records that pass through it are those from a up to e
pub record ThroughRun (s : List ℕ) (m p a e : ℕ) : Type 0 where
  pub first : a ≤ e
  pub last : e ≤ length s / 8
  pub inside : (k : ℕ) → a ≤ k → k < e → through_at s m p k ≡ true
  pub only : (k : ℕ) → k < length s / 8 → through_at s m p k ≡ true → (a ≤ k) × (k < e)

-- the same, of good records, for the node of the run's first record
pub record NodeRun (s : List ℕ) (m a e : ℕ) : Type 0 where
  pub records : Records s (length s / 8)
  pub deep : m ≤ 8
  pub run : ThroughRun s m (path_at s m a) a e

-- r is the end of the run that begins with record a: the first record after it that does not pass through its node of depth m, or e
pub record RunEnd (s : List ℕ) (m a e r : ℕ) : Type 0 where
  pub after : a < r
  pub high : r ≤ e
  pub all : (k : ℕ) → a < k → k < r → through_at s m (path_at s m a) k ≡ true
  pub stop : r < e → through_at s m (path_at s m a) r ≡ false

-- the bit of a node of depth m at which a prefix lies: an internal bit where it ends in the node, otherwise an extending bit
unfoldable pub node_bit : ℕ → ℕ → ℕ → ℕ
node_bit m addr len =
    cond (ltb len (4 * (m + 1))) (2 ^ (len - 4 * m) - 1 + slot len addr % 2 ^ (len - 4 * m)) (16 + slot (4 * (m + 1)) addr % 16)

abbrev pub node_bit_at : List ℕ → ℕ → ℕ → ℕ
node_bit_at s m k = node_bit m (record_at s k).addr (record_at s k).len

-- r is w with the bit b set
pub record WithBit (w b r : ℕ) : Type 0 where
  pub fits : r < 2 ^ 32
  pub bits : (k : ℕ) → bit_at r k ≡ cond (eqb k b) 1 (bit_at w k)

-- the bits of the node of depth m whose run begins at a
abbrev pub inner_in : List ℕ → ℕ → ℕ → ℕ → Bool
inner_in s m a = inner (hop_in s) (node_at s m a)

abbrev pub child_in : List ℕ → ℕ → ℕ → ℕ → Bool
child_in s m a = child (stands_in s) (node_at s m a)

abbrev pub word_in : List ℕ → ℕ → ℕ → ℕ
word_in s m a = word (stands_in s) (hop_in s) (node_at s m a)
