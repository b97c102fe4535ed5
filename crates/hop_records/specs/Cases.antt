-- What forwarding says, case by case and in order: lookup's own answer, 14, 15, the port. And on a sound table, by the routes.
use Rattle.std.specs.Prelude.{◌≡◌, ℕ, ◌<◌, ◌≤◌, true, false, ◌≢◌, List, [], ◌∷◌, length}
use mathlib.Core.List.{Memᴰ}
use Rattle.routes.specs.Said.{Said, accepted, refused, no_route_after}
use Rattle.routes.specs.declared.Route.{Route}
use Rattle.standing.specs.Cells.{covers, Longest}
use Rattle.sail.specs.Word.{said_of, has_hop, hop_in_word}
use Rattle.hop_records.specs.Records.{record_of}
use Rattle.hop_records.specs.Forward.{pack_forward}
use Rattle.hop_records.specs.declared.HopRecord.{HopRecord}

-- "hop h at place h counted from 1", of the hops that there are
pub record HasRecord (rs : List HopRecord) (h : ℕ) : Type 0 where
  pub one : 1 ≤ h
  pub within : h ≤ length rs
  pub hop : h ≤ 32767

-- of what a lookup says, and what is then said
pub data Forward (rs : List HopRecord) : Said → Said → Type 0 where
  -- "The answer is lookup's": a refusal, or no route
  no_hop : (s : Said) → has_hop s ≡ false → Forward rs s s
  -- "14, the hop has no record"
  no_record : (n h : ℕ) (vs : List ℕ) → (HasRecord rs h → ⊥) → Forward rs (accepted (n ∷ h ∷ vs)) (refused 14)
  -- "15, the record is down"
  down : (n h : ℕ) (vs : List ℕ) → HasRecord rs h → (record_of rs h).up ≢ 1 → Forward rs (accepted (n ∷ h ∷ vs)) (refused 15)
  -- "lookup's, with the port"
  out : (n h : ℕ) (vs : List ℕ) → HasRecord rs h → (record_of rs h).up ≡ 1
      → Forward rs (accepted (n ∷ h ∷ vs)) (accepted (n ∷ h ∷ (record_of rs h).port ∷ []))

-- the same of any number in the place of a lookup's, and the answer
pub data Counted (rs : List HopRecord) (w : ℕ) : ℕ → Type 0 where
  no_hop : hop_in_word w ≡ false → Counted rs w w
  hop : (s : Said) → hop_in_word w ≡ true → Forward rs (said_of w) s → Counted rs w (pack_forward s)

-- The same after n reads of a lookup of the address a, where the routes stand and the table is sound: a packet is forwarded if a standing route
-- covers its address, and the record of the longest one's hop exists and is up
pub data ForwardServed (routes : List Route) (rs : List HopRecord) (a n : ℕ) : Said → Type 0 where
  no_route : ((r : Route) → Memᴰ r routes → covers 32 a r ≡ false) → ForwardServed routes rs a n (no_route_after n)
  no_record : (h : ℕ) → Longest routes 32 a h → length rs < h → ForwardServed routes rs a n (refused 14)
  down : (h : ℕ) → Longest routes 32 a h → h ≤ length rs → (record_of rs h).up ≢ 1 → ForwardServed routes rs a n (refused 15)
  out : (h : ℕ) → Longest routes 32 a h → h ≤ length rs → (record_of rs h).up ≡ 1
      → ForwardServed routes rs a n (accepted (n ∷ h ∷ (record_of rs h).port ∷ []))
