-- Records: eight bytes for a route, the most significant first.
use Rattle.std.specs.Prelude.{ℕ, ◌+◌, ◌*◌, ◌/◌, ◌%◌, ◌^◌, ◌≤◌, ◌<◌, cond, List, [], ◌∷◌, ◌++◌, ◌≡◌, ltb, length, get_or, take, drop}
use Rattle.bits.specs.Bytes.{above1, above2, above3, byte}
use Rattle.bits.specs.Tab.{tabulate}
use Rattle.routes.specs.Route.{key, Fine}
use Rattle.routes.specs.declared.Route.{Route}

-- four bytes as a number, the first the highest; and two
abbrev pub word32 : List ℕ → ℕ → ℕ
word32 s i = ((get_or s i 0 * 256 + get_or s (i + 1) 0) * 256 + get_or s (i + 2) 0) * 256 + get_or s (i + 3) 0

abbrev pub word16 : List ℕ → ℕ → ℕ
word16 s i = get_or s i 0 * 256 + get_or s (i + 1) 0

-- record k of s
unfoldable pub record_at : List ℕ → ℕ → Route
record_at s k = record {
  addr = word32 s (k * 8);
  len = get_or s (k * 8 + 4) 0;
  mark = get_or s (k * 8 + 5) 0;
  hop = word16 s (k * 8 + 6);
}

-- the eight bytes of a route
unfoldable pub bytes_of : Route → List ℕ
bytes_of r =
    above3 r.addr
    ∷ byte (above2 r.addr)
    ∷ byte (above1 r.addr)
    ∷ byte r.addr
    ∷ r.len
    ∷ r.mark
    ∷ above1 r.hop
    ∷ byte r.hop
    ∷ []

-- s with record k made r
unfoldable pub put_at : List ℕ → ℕ → Route → List ℕ
put_at s k r = take (k * 8) s ++ bytes_of r ++ drop (k * 8 + 8) s

-- the routes of the first n records
unfoldable pub routes_of : List ℕ → ℕ → List Route
routes_of s n = tabulate n (record_at s)

abbrev pub no_route : Route
no_route = record { addr = 0; len = 0; mark = 0; hop = 0 }

-- the bytes of these routes in a list with room for this many records; those past the last record are zero
unfoldable pub written : List Route → ℕ → List ℕ
written rs room = tabulate (room * 8) (λ j. cond (ltb (j / 8) (length rs)) (get_or (bytes_of (get_or rs (j / 8) no_route)) (j % 8) 0) 0)

-- n records of s, from record j on
abbrev pub part : List ℕ → ℕ → ℕ → List ℕ
part s j n = take (n * 8) (drop (j * 8) s)

-- numbers that a record has room for
pub record Ranged (r : Route) : Type 0 where
  pub addr_fits : r.addr < 2 ^ 32
  pub len_fits : r.len < 2 ^ 8
  pub mark_fits : r.mark < 2 ^ 8
  pub hop_fits : r.hop < 2 ^ 16

-- the first n records of s are fine and strictly ascending
pub record Records (s : List ℕ) (n : ℕ) : Type 0 where
  pub room : n * 8 ≤ length s
  pub few : n ≤ 4096
  pub each : (k : ℕ) → k < n → Fine (record_at s k)
  pub rises : (i j : ℕ) → i < j → j < n → key (record_at s i) < key (record_at s j)

-- a lent list that holds n routes: whole records, the first n good, and zero bytes after them
pub record Listed (s : List ℕ) (n : ℕ) : Type 0 where
  pub records : Records s n
  pub whole : length s % 8 ≡ 0
  pub zeros : (j : ℕ) → n * 8 ≤ j → j < length s → get_or s j 0 ≡ 0

-- an input of n good records, and nothing after them
pub record GoodInput (s : List ℕ) (n : ℕ) : Type 0 where
  pub records : Records s n
  pub whole : length s ≡ n * 8

-- the routes of an input
abbrev pub routes_in : List ℕ → List Route
routes_in s = routes_of s (length s / 8)
