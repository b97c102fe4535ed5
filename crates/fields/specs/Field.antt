-- The route fields of RFC 4271: "a length byte, then only as many bytes as the length needs, trailing bits of no meaning".
use Rattle.std.specs.Prelude.{Bool, false, cond, ◌||◌, List, [], ◌∷◌, ◌++◌, ◌≡◌, ℕ, zero, suc, ◌+◌, ◌/◌, ◌≤◌, ◌<◌, ltb, length, get_or, take, drop}
use Rattle.bits.specs.Bytes.{above1, above2, above3, byte}
use Rattle.bits.specs.Slot.{slot, cut}
use Rattle.routes.specs.Record.{word32}
use Rattle.routes.specs.declared.Route.{Route}

-- a prefix by itself
pub record Net : Type 0 where
  pub addr : ℕ
  pub len : ℕ

abbrev pub net_of : Route → Net
net_of r = record { addr = r.addr; len = r.len }

-- how many bytes a prefix of so many bits takes
abbrev pub bytes_for : ℕ → ℕ
bytes_for len = (len + 7) / 8

-- the prefix of an entry with this length byte and these bytes after it: as many of them as it needs, zeros after them, cut to the length
abbrev pub net_in : ℕ → List ℕ → Net
net_in len bytes = record { addr = cut len (word32 (take (bytes_for len) bytes) 0); len = len }

-- bytes are numbers of 8 bits: so of every `&[u8]` that is lent
pub record Bytes8 (s : List ℕ) : Type 0 where
  pub each : (k : ℕ) → get_or s k 0 < 256

-- A field is entries end to end, and has the prefixes of these.
pub data Field : List ℕ → List Net → Type 0 where
  none : Field [] []
  more : (len : ℕ) (body rest : List ℕ) (ns : List Net) → len ≤ 32 → length body ≡ bytes_for len → Field rest ns
      → Field (len ∷ (body ++ rest)) (net_in len body ∷ ns)

-- The same by steps, of which there are at most n: whether the bytes are no such field ("a length over 32 or a field that ends inside an
-- entry"), and the prefixes. With as many steps as there are bytes all are seen (`field_told`, `told-field`, proofs/Fields.antt).
unfoldable pub broken_in : ℕ → List ℕ → Bool
broken_in zero s = false
broken_in (suc n) [] = false
broken_in (suc n) (len ∷ s) = ltb 32 len || (ltb (length s) (bytes_for len) || broken_in n (drop (bytes_for len) s))

unfoldable pub nets_in : ℕ → List ℕ → List Net
nets_in zero s = []
nets_in (suc n) [] = []
nets_in (suc n) (len ∷ s) = net_in len s ∷ nets_in n (drop (bytes_for len) s)

abbrev pub broken : List ℕ → Bool
broken s = broken_in (length s) s

-- the prefixes of a field, in order
abbrev pub entries : List ℕ → List Net
entries s = nets_in (length s) s

-- 17, or 0
unfoldable pub field_fault : List ℕ → ℕ
field_fault s = cond (broken s) 17 0

-- The field of routes: of each prefix its length byte and as many bytes of its address as it needs.
abbrev pub entry_bytes : ℕ → ℕ → List ℕ
entry_bytes a len = len ∷ above3 a ∷ byte (above2 a) ∷ byte (above1 a) ∷ byte a ∷ []

abbrev pub entry_of : ℕ → ℕ → List ℕ
entry_of a len = take (suc (bytes_for len)) (entry_bytes a len)

unfoldable pub field_of : List Route → List ℕ
field_of [] = []
field_of (r ∷ rs) = entry_of r.addr r.len ++ field_of rs

-- how many bytes entries of these prefixes take
unfoldable pub size_of : List Net → ℕ
size_of [] = 0
size_of (e ∷ es) = suc (bytes_for e.len) + size_of es

-- Two fields that differ in bits of no meaning alone: entry by entry one length, and the same first bits.
pub data Alike : List ℕ → List ℕ → Type 0 where
  none : Alike [] []
  more : (len : ℕ) (b c s u : List ℕ) → len ≤ 32 → length b ≡ bytes_for len → length c ≡ bytes_for len
      → slot len (word32 b 0) ≡ slot len (word32 c 0) → Alike s u → Alike (len ∷ (b ++ s)) (len ∷ (c ++ u))
