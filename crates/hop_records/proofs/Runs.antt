-- A run of packets: each record has its own packets and their octets added, modulo 2 ^ 32. By induction on the run: the first packet counts in the
-- record of its hop and leaves the others, and growing a counter twice is growing it by both.
use Rattle.std.proofs.Common.{◌≡◌, ℕ, suc, ◌+◌, ◌<◌, ◌≤◌, Bool, true, false, cond, eqb, ◌≢◌, ◌⊎◌, List, [], ◌∷◌, length, get_or, refl, ◌∙◌, ap₂, inl, inr, arith, eq-eqb, ne_eqb}
use Rattle.bits.proofs.Bools.{equal?, decided}
use Rattle.hop_records.specs.Records.{no_record, grown, counted_by, is_up}
use Rattle.hop_records.specs.Forward.{hop_of, records_after}
use Rattle.hop_records.specs.Runs.{Packet, records_run, packets_to, octets_to, sent_many, Counting}
use Rattle.hop_records.specs.Steps.{sent_by}
use Rattle.hop_records.specs.declared.HopRecord.{HopRecord}
use Rattle.hop_records.proofs.Counts.{grown-twice, same-many, forward-own, forward-others, beyond-stays, keeps-port, keeps-mark}

-- a record with other counts
abbrev with : HopRecord → ℕ → ℕ → HopRecord
with r p o = record { port = r.port; up = r.up; packets = p; octets = o }

none-many : (r : HopRecord) → Counting r → r ≡ sent_many r 0 0
none-many r c = go (decided (is_up r))
  where
    go : (is_up r ≡ true) ⊎ (is_up r ≡ false) → r ≡ sent_many r 0 0
    go (inr e) = rw e
    go (inl e) =
        let p : r.packets ≡ grown r.packets 0 = omega (arith, c.packets) in
        let o : r.octets ≡ grown r.octets 0 = omega (arith, c.octets) in
        rw e (ap₂ (with r) p o)

one-many : (r : HopRecord) (n a b : ℕ) → sent_many (sent_by r n) a b ≡ sent_many r (1 + a) (n + b)
one-many r n a b = go (decided (is_up r))
  where
    go : (is_up r ≡ true) ⊎ (is_up r ≡ false) → sent_many (sent_by r n) a b ≡ sent_many r (1 + a) (n + b)
    go (inr e) = rw (e, e)
    go (inl e) = rw (e, e) (ap₂ (with r) (grown-twice r.packets 1 a) (grown-twice r.octets n b))

sent-counts : (r : HopRecord) (n : ℕ) → Counting r → Counting (sent_by r n)
sent-counts r n c = go (is_up r)
  where
    go : (b : Bool) → Counting (cond b (counted_by r n) r)
    go true = record { packets = omega arith; octets = omega arith }
    go false = c

pub run-many : (ps : List Packet) (rs : List HopRecord) → length (records_run rs ps) ≡ length rs
unfolding records_run
run-many [] rs = refl
run-many (p ∷ ps) rs = run-many ps (records_after rs p.found p.octets) ∙ same-many rs p.found p.octets

-- "Counter32 .. after 4,294,967,295 the next value is 0", over any run: the record of hop k + 1 has its packets and their octets added, if it is up
pub run-record : (ps : List Packet) (rs : List HopRecord) (k : ℕ) → k < length rs → k < 32767 → Counting (get_or rs k no_record)
    → get_or (records_run rs ps) k no_record ≡ sent_many (get_or rs k no_record) (packets_to (suc k) ps) (octets_to (suc k) ps)
unfolding records_run packets_to octets_to
run-record [] rs k h b c = none-many (get_or rs k no_record) c
run-record (p ∷ ps) rs k h b c = go (equal? (hop_of p.found) (suc k)) (run-record ps (records_after rs p.found p.octets) k)
  where
    after : List HopRecord
    after = records_after rs p.found p.octets

    size : k < length after
    size = rw (same-many rs p.found p.octets) h

    go : (hop_of p.found ≡ suc k) ⊎ (hop_of p.found ≢ suc k)
        → (k < length after → k < 32767 → Counting (get_or after k no_record) → get_or (records_run after ps) k no_record
        ≡ sent_many (get_or after k no_record) (packets_to (suc k) ps) (octets_to (suc k) ps))
        → get_or (records_run after ps) k no_record ≡ sent_many (get_or rs k no_record) (cond (eqb (hop_of p.found) (suc k)) 1 0 + packets_to (suc k) ps)
        (cond (eqb (hop_of p.found) (suc k)) p.octets 0 + octets_to (suc k) ps)
    go (inl e) ih =
        let own = forward-own rs p.found p.octets k e h b in
        rw (eq-eqb (hop_of p.found) (suc k) e)
        (ih size b (rw own (sent-counts _ p.octets c)) ∙ rw own (one-many (get_or rs k no_record) p.octets _ _))
    go (inr e) ih =
        let other = forward-others rs p.found p.octets k e in
        rw (ne_eqb (hop_of p.found) (suc k) e)
        (ih size b (rw other c) ∙ rw other (ap₂ (sent_many (get_or rs k no_record)) (omega arith) (omega arith)))

-- a record at a place that no hop has stays
pub run-beyond : (ps : List Packet) (rs : List HopRecord) (k : ℕ) → 32767 ≤ k → get_or (records_run rs ps) k no_record ≡ get_or rs k no_record
unfolding records_run
run-beyond [] rs k b = refl
run-beyond (p ∷ ps) rs k b =
    run-beyond ps (records_after rs p.found p.octets) k b ∙ beyond-stays rs p.found p.octets k b

-- port and mark stay in every record
pub run-port : (ps : List Packet) (rs : List HopRecord) (k : ℕ) → (get_or (records_run rs ps) k no_record).port ≡ (get_or rs k no_record).port
unfolding records_run
run-port [] rs k = refl
run-port (p ∷ ps) rs k = run-port ps (records_after rs p.found p.octets) k ∙ keeps-port rs p.found p.octets k

pub run-mark : (ps : List Packet) (rs : List HopRecord) (k : ℕ) → (get_or (records_run rs ps) k no_record).up ≡ (get_or rs k no_record).up
unfolding records_run
run-mark [] rs k = refl
run-mark (p ∷ ps) rs k = run-mark ps (records_after rs p.found p.octets) k ∙ keeps-mark rs p.found p.octets k
