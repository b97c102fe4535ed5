-- The demands of forwarding and counting packets (document 02, request a). Both take the table by `&`; what they change is the list of hop records.
use mathlib.Core.Path.{◌≡◌, refl, ap, ◌∙◌, subst}
use mathlib.Core.Logic.{◌↔◌, ◌≢◌}
use mathlib.Core.Bool.{false}
use mathlib.Core.List.{List}
use Prim.Native.Nat.{ℕ, suc, ◌^◌, ◌<◌}
use lib.ListN.{length, get_or}
use Rattle.routes.specs.Said.{Said, accepts}
use Rattle.routes.proofs.Judged.{exactly}
use Rattle.sail.specs.Cases.{Lookup}
use Rattle.sail.specs.Lent.{Lent}
use Rattle.sail.specs.Sound.{Sound, standing, cells_read}
use Rattle.sail.specs.Walk.{lookup_said}
use Rattle.sail.specs.Word.{Word, has_hop}
use Rattle.sail.specs.declared.table.Table.{Table}
use Rattle.sail.proofs.Judged.{lookup-judged, lookup-only}
use Rattle.sail.proofs.Sounds.{standing-good}
use Rattle.hop_records.specs.Records.{no_record, grown}
use Rattle.hop_records.specs.Forward.{forward_said, hop_of, records_after, counted_word}
use Rattle.hop_records.specs.Runs.{Packet, records_run, packets_to, octets_to, sent_many, Counting}
use Rattle.hop_records.specs.Steps.{sent_by}
use Rattle.hop_records.specs.Cases.{Forward, Counted, ForwardServed}
use Rattle.hop_records.specs.Contract.{MeetsForward, MeetsCount}
use Rattle.hop_records.specs.declared.HopRecord.{HopRecord}
use Rattle.hop_records.proofs.Counts as counts
use Rattle.hop_records.proofs.Runs as runs
use Rattle.hop_records.proofs.Judged as judged
use Rattle.hop_records.proofs.Meanings as meanings
use Rattle.hop_records.proofs.OneAnswer as answer
use Rattle.demands.proofs.Demand2.{sail-serves}

-- what is said of a packet: by lookup's conditions first, and then by those of the records
pub record Forwarding (t : Table) (l : Lent) (rs : List HopRecord) (a : ℕ) (x : Said) : Type 0 where
  pub found : Said
  pub looked_up : Lookup t l a found
  pub sent : Forward rs found x

module _ (rs : List HopRecord) where
  module _ (t : Table) (l : Lent) (a : ℕ) where
    -- Demand 1. "Carries its number": 1, 2, 5 of the lookup, 14, 15
    pub refused-number-forward : (x : Said) → (forward_said rs (lookup_said t l a) ≡ x) ↔ Forwarding t l rs a x
    refused-number-forward =
        exactly (Forwarding t l rs a) _ _ refl
        (record { found = lookup_said t l a; looked_up = lookup-judged t l a; sent = judged.forward-judged rs (lookup_said t l a) })
        (λ x f. ap (forward_said rs) (lookup-only t l a f.found f.looked_up) ∙ judged.forward-only rs f.found x f.sent)

    -- Demand 2. On a sound table a packet is forwarded exactly if a standing route covers its address and the record of the longest one's hop
    -- exists and is up; and what is said otherwise
    pub forward-serves : Sound t l → a < 2 ^ 32 → (x : Said)
        → (forward_said rs (lookup_said t l a) ≡ x) ↔ ForwardServed (standing t l) rs a (cells_read t.geometry (standing t l) a) x
    forward-serves s h =
        let good = standing-good t l s in
        let served = sail-serves t l s a h in
        exactly (ForwardServed (standing t l) rs a (cells_read t.geometry (standing t l) a)) _ _ refl
        (judged.served-judged (standing t l) good rs a _ (lookup_said t l a) served)
        (judged.served-only (standing t l) good rs a _ (lookup_said t l a) served)

  -- of counting, for every number in the place of a lookup's
  pub refused-number-count : (w r : ℕ) → (counted_word rs w ≡ r) ↔ Counted rs w r
  refused-number-count w r = ((λ e. subst (Counted rs w) e (judged.counted-judged rs w)), judged.counted-only rs w r)

  -- counting by a lookup's number is forwarding
  pub count-is-forward : (w : ℕ) (s : Said) → Word w s → (n r : ℕ) (zs : List HopRecord) → MeetsCount rs w n r zs → MeetsForward rs s n r zs
  count-is-forward = meanings.count-forwards rs

  module _ (s : Said) (n : ℕ) where
    -- "The caller's state and buffers stay exactly as they were": 14, 15 and lookup's refusals
    pub refused-leaves-all-forward : accepts (forward_said rs s) ≡ false → records_after rs s n ≡ rs
    refused-leaves-all-forward = counts.refused-adds rs s n

    -- "no route adds nothing"
    pub no-route-adds : has_hop s ≡ false → records_after rs s n ≡ rs
    no-route-adds e = counts.no-hop-adds rs s n (judged.no-hop-zero s e)

    -- "A forwarded packet adds one packet and its octets to its own record, and no other record changes"
    pub packet-own : (k : ℕ) → hop_of s ≡ suc k → k < length rs → k < 32767 → get_or (records_after rs s n) k no_record ≡ sent_by (get_or rs k no_record) n
    packet-own = counts.forward-own rs s n

    pub packet-others : (k : ℕ) → hop_of s ≢ suc k → get_or (records_after rs s n) k no_record ≡ get_or rs k no_record
    packet-others = counts.forward-others rs s n

    pub packet-many : length (records_after rs s n) ≡ length rs
    packet-many = counts.same-many rs s n

    -- "Show that no second answer would satisfy it."
    pub one-answer-forward : (r q : ℕ) (zs ys : List HopRecord) → MeetsForward rs s n r zs → MeetsForward rs s n q ys → (r ≡ q) × (zs ≡ ys)
    one-answer-forward = answer.one-answer-forward rs s n

  pub one-answer-count : (w n r q : ℕ) (zs ys : List HopRecord) → MeetsCount rs w n r zs → MeetsCount rs w n q ys → (r ≡ q) × (zs ≡ ys)
  one-answer-count = answer.one-answer-count rs

-- "after 4,294,967,295 the next value is 0"
pub counter-wraps : grown 4294967295 1 ≡ 0
counter-wraps = counts.counter-wraps

-- Over any run of packets, with lookups in whatever tables: the record of hop k + 1 has the packets of that hop and their octets added, modulo
-- 2 ^ 32, if it is up; port and mark stay, and so do all records of no hop
pub packets-counted : (ps : List Packet) (rs : List HopRecord) (k : ℕ) → k < length rs → k < 32767 → Counting (get_or rs k no_record)
    → get_or (records_run rs ps) k no_record ≡ sent_many (get_or rs k no_record) (packets_to (suc k) ps) (octets_to (suc k) ps)
packets-counted = runs.run-record

pub packets-keep-port : (ps : List Packet) (rs : List HopRecord) (k : ℕ) → (get_or (records_run rs ps) k no_record).port ≡ (get_or rs k no_record).port
packets-keep-port = runs.run-port

pub packets-keep-mark : (ps : List Packet) (rs : List HopRecord) (k : ℕ) → (get_or (records_run rs ps) k no_record).up ≡ (get_or rs k no_record).up
packets-keep-mark = runs.run-mark
