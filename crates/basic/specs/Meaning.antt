-- What the maps and the calls are worth, in the request's words.
use Rattle.std.specs.Prelude.{true, false, ◌≡◌, ℕ, ◌/◌, ◌^◌, ◌≤◌, ◌<◌, length, get_or}
use mathlib.Core.List.{List, [], ◌∷◌, Memᴰ}
use Rattle.bits.specs.Slot.{slot}
use Rattle.routes.specs.Cases.{BadInput}
use Rattle.routes.specs.Record.{GoodInput, routes_in}
use Rattle.routes.specs.Said.{Said, accepted, refused}
use Rattle.routes.specs.declared.Route.{Route}
use Rattle.standing.specs.Cells.{here, covers, Longest}
use Rattle.basic.specs.Maps.{map_place, is_set_at, map_bit_for, cell_for, MapSizes}

-- The two arrays are those of the routes rs. Every place but the last is the place of a prefix (`place-prefix`), so this says all of them
pub record MapsOf (rs : List Route) (bits cells : List ℕ) : Type 0 where
  -- "131,071 bits in 16,384 bytes", "131,071 hop cells"
  pub sizes : MapSizes (length bits) (length cells)
  -- "one bit for each prefix and one hop cell of 16 bits for each": set, and its hop, where a route of the prefix stands
  pub stands : (r : Route) → Memᴰ r rs → r.len ≤ 16
      → (is_set_at bits (map_place r.len (slot r.len r.addr)) ≡ true) × (get_or cells (map_place r.len (slot r.len r.addr)) 0 ≡ r.hop)
  -- "zero where no route stands"
  pub absent : (l v : ℕ) → l ≤ 16 → v < 2 ^ l → ((r : Route) → Memᴰ r rs → here l v r ≡ false)
      → (is_set_at bits (map_place l v) ≡ false) × (get_or cells (map_place l v) 0 ≡ 0)
  -- "the last bit zero"
  pub last : is_set_at bits 131071 ≡ false

-- "its hop equals that of the covering rule": the hop of a route that covers the address, than which no route that covers it is longer; or no
-- route, and then none covers
pub data MapsServe (rs : List Route) (a : ℕ) : Said → Type 0 where
  hop : (h : ℕ) → Longest rs 32 a h → MapsServe rs a (accepted (h ∷ []))
  none : ((r : Route) → Memᴰ r rs → covers 32 a r ≡ false) → MapsServe rs a (accepted [])

-- What each call can say, in order, with all that then holds.

-- "Refusals, in order: the record input's; 2 for another array size"
pub data Unready (s bits cells : List ℕ) : Said → Type 0 where
  bad_input : (x : Said) → BadInput s x → Unready s bits cells x
  bad_size : (n : ℕ) → GoodInput s n → (MapSizes (length bits) (length cells) → ⊥) → Unready s bits cells (refused 2)

-- neither
pub record Prepared (s bits cells : List ℕ) : Type 0 where
  pub input : GoodInput s (length s / 8)
  pub sizes : MapSizes (length bits) (length cells)

-- no route longer than 16 bits covers the address
abbrev pub NoLong : List Route → ℕ → Type 0
NoLong rs a = (r : Route) → Memᴰ r rs → 16 < r.len → covers 32 a r ≡ false

-- "the first set bit met on the way down": that of the first l bits, and none of more, up to 16, is set
pub record FirstSet (bits : List ℕ) (a l : ℕ) : Type 0 where
  pub short : l ≤ 16
  pub set : map_bit_for bits a l ≡ true
  pub none_longer : (k : ℕ) → l < k → k ≤ 16 → map_bit_for bits a k ≡ false

-- one lookup
pub data BasicLookup (s bits cells : List ℕ) (a : ℕ) : Said → Type 0 where
  unready : (x : Said) → Unready s bits cells x → BasicLookup s bits cells a x
  -- "find anything longer in the record list": no bit is looked at
  in_list : Prepared s bits cells → (h : ℕ) (w : Longest (routes_in s) 32 a h) → 16 < w.route.len → BasicLookup s bits cells a (accepted (h ∷ []))
  -- the first set bit's hop
  met : Prepared s bits cells → NoLong (routes_in s) a → (l : ℕ) → FirstSet bits a l → 1 ≤ cell_for cells a l → cell_for cells a l ≤ 32767
      → BasicLookup s bits cells a (accepted (cell_for cells a l ∷ []))
  -- "13 where the first set bit met on the way down has a hop outside 1 to 32,767"
  broken : Prepared s bits cells → NoLong (routes_in s) a → (l : ℕ) → FirstSet bits a l → (1 ≤ cell_for cells a l → cell_for cells a l ≤ 32767 → ⊥)
      → BasicLookup s bits cells a (refused 13)
  -- no bit is set, that of level 0 among them
  no_route : Prepared s bits cells → NoLong (routes_in s) a → ((l : ℕ) → l ≤ 16 → map_bit_for bits a l ≡ false) → BasicLookup s bits cells a (accepted [])

-- many
pub data BasicLookups (s bits cells addrs words : List ℕ) : Said → Type 0 where
  unready : (x : Said) → Unready s bits cells x → BasicLookups s bits cells addrs words x
  uneven : Prepared s bits cells → (length words ≡ length addrs → ⊥) → BasicLookups s bits cells addrs words (refused 2)
  done : Prepared s bits cells → length words ≡ length addrs → BasicLookups s bits cells addrs words (accepted [])
