-- A node of an image: its three words, and what they say of the next four bits of an address.
use Rattle.std.specs.Prelude.{◌≡◌, ℕ, ◌+◌, ◌-◌, ◌*◌, ◌/◌, ◌%◌, ◌^◌, ◌<◌, Bool, true, false, cond, not, ◌&&◌, List, eqb, ltb, length, get_or, Option, Some, None}
use Rattle.std.specs.Int.Count.{ones}
use Rattle.bits.specs.Bit.{bit_at}

-- the words of node i: its bits, its child base and its hop base
abbrev pub bits_of : List ℕ → ℕ → ℕ
bits_of ws i = get_or ws (3 * i) 0

abbrev pub child_of : List ℕ → ℕ → ℕ
child_of ws i = get_or ws (3 * i + 1) 0

abbrev pub base_of : List ℕ → ℕ → ℕ
base_of ws i = get_or ws (3 * i + 2) 0

-- the bit is set
abbrev pub is_set : ℕ → ℕ → Bool
is_set w b = eqb (bit_at w b) 1

-- node i is lent whole, and its bit 15 is zero
unfoldable pub sound : List ℕ → ℕ → Bool
sound ws i = ltb i (length ws / 3) && not (is_set (bits_of ws i) 15)

-- the four bits of an address that have 4 * d bits below them
abbrev pub nibble_of : ℕ → ℕ → ℕ
nibble_of a d = a / 2 ^ (4 * d) % 16

-- the internal bit b, if it is set, and otherwise what the rest gives
unfoldable pub try_bit : ℕ → ℕ → Option ℕ → Option ℕ
try_bit w b rest = cond (is_set w b) (Some b) rest

-- the internal bit for the inner length j and the j bits u there
abbrev pub inner_bit : ℕ → ℕ → ℕ
inner_bit j u = 2 ^ j - 1 + u

-- the one that matches four bits v: for the first j of them
abbrev pub match_bit : ℕ → ℕ → ℕ
match_bit j v = inner_bit j (v / 2 ^ (4 - j))

-- What the deepest match of a node is: the bit of the longest inner length, of 3 down to 0, whose bit is set; none, where none is.
pub data Deepest (w v : ℕ) : Option ℕ → Type 0 where
  match : (j : ℕ) → j < 4 → is_set w (match_bit j v) ≡ true → ((k : ℕ) → j < k → k < 4 → is_set w (match_bit k v) ≡ false) → Deepest w v (Some (match_bit j v))
  none : ((k : ℕ) → k < 4 → is_set w (match_bit k v) ≡ false) → Deepest w v None

-- it is worked out bit by bit (`deepest-longest` in proofs/Matches.antt)
unfoldable pub deepest_of : ℕ → ℕ → Option ℕ
deepest_of w v = try_bit w (7 + v / 2) (try_bit w (3 + v / 4) (try_bit w (1 + v / 8) (try_bit w 0 None)))

-- the place of the hop at the internal bit b: the hop base and the ones below; the place found before, where there is no bit
unfoldable pub better_of : ℕ → ℕ → Option ℕ → Option ℕ → Option ℕ
better_of w base None best = best
better_of w base (Some b) best = Some (base + ones (w % 2 ^ b))

-- the place of the child at the four bits v: the child base and the extending ones below
abbrev pub child_at : ℕ → ℕ → ℕ → ℕ
child_at w base v = base + ones (w / 2 ^ 16 % 2 ^ v)
