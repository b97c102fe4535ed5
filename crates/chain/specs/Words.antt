-- A record as one word of 64 bits: its eight bytes, the first the highest. Words are in the order of their routes.
use Rattle.std.specs.Prelude.{List, map, ◌≡◌, ℕ, suc, ◌+◌, ◌*◌, ◌<◌, ◌≤◌, length, get_or}
use Rattle.bits.specs.Bytes.{above2, above3, above4, byte, half}
use Rattle.bits.specs.Tab.{tabulate}
use Rattle.routes.specs.Route.{Fine}
use Rattle.routes.specs.Record.{word32, word16}
use Rattle.routes.specs.declared.Route.{Route}

-- record k of s as a word
unfoldable pub word_at : List ℕ → ℕ → ℕ
word_at s k = ((word32 s (k * 8) * 256 + get_or s (k * 8 + 4) 0) * 256 + get_or s (k * 8 + 5) 0) * 65536 + word16 s (k * 8 + 6)

-- the first n records as words
unfoldable pub words_of : List ℕ → ℕ → List ℕ
words_of s n = tabulate n (word_at s)

-- the first k of these words are those of the records of s, which has a record for each word
pub record WordsBelow (s : List ℕ) (k : ℕ) (ws : List ℕ) : Type 0 where
  pub fits : length ws * 8 ≤ length s
  pub place : k ≤ length ws
  pub each : (j : ℕ) → j < k → get_or ws j 0 ≡ word_at s j

-- the route of a word, by its parts
abbrev pub addr_of : ℕ → ℕ
addr_of w = above4 w

abbrev pub len_of : ℕ → ℕ
len_of w = byte (above3 w)

abbrev pub hop_of : ℕ → ℕ
hop_of w = half w

abbrev pub route_of_word : ℕ → Route
route_of_word w = record { addr = addr_of w; len = len_of w; mark = byte (above2 w); hop = hop_of w }

-- the key of a word's route: its address and its length
abbrev pub key_in : ℕ → ℕ
key_in w = above3 w

-- the routes of these words
abbrev pub routes_of_words : List ℕ → List Route
routes_of_words ws = map route_of_word ws

-- each word is of a fine route, and the keys rise
pub record Words (ws : List ℕ) : Type 0 where
  pub fine : (k : ℕ) → k < length ws → Fine (route_of_word (get_or ws k 0))
  pub rises : (k : ℕ) → suc k < length ws → key_in (get_or ws k 0) < key_in (get_or ws (suc k) 0)
