-- What a packet does to hop records: its own record counts it, and no other record changes.
use Rattle.std.proofs.Common.{◌≡◌, ℕ, suc, ◌+◌, ◌-◌, ◌<◌, ◌≤◌, min, Bool, true, false, cond, ◌≢◌, ◌⊎◌, List, [], ◌∷◌, length, get_or, sym, refl, ◌∙◌, subst, inl, inr, true≢false, arith, length-set, get_or-set_other, get_or-set_same}
use Rattle.bits.proofs.Bools.{below?, equal?, decided}
use Rattle.routes.specs.Said.{Said, accepted, refused, refused_at, accepts}
use Rattle.hop_records.specs.Records.{no_record, grown, counted_by, is_up, has_record, record_of}
use Rattle.hop_records.specs.Forward.{port_said, forward_said, hop_of, records_after}
use Rattle.hop_records.specs.Steps.{sent_by}
use Rattle.hop_records.specs.declared.HopRecord.{HopRecord}
use Rattle.hop_records.proofs.Meanings.{record_is, record-not, port-up, after_none, after-down, after-up}

-- "after 4,294,967,295 the next value is 0"; before it, it is the next number
pub counter-wraps : grown 4294967295 1 ≡ 0
counter-wraps = refl

pub counter_next : grown 4294967294 1 ≡ 4294967295
counter_next = refl

-- growing twice is growing by both
pub grown-twice : (c m n : ℕ) → grown (grown c m) n ≡ grown c (m + n)
grown-twice c m n = omega arith

-- the ways of a packet: no record, one that is down, one that is up
by-record : (rs : List HopRecord) (h : ℕ) (P : Type 0) → (has_record rs h ≡ false → P) → (has_record rs h ≡ true → is_up (record_of rs h) ≡ false → P)
    → (has_record rs h ≡ true → is_up (record_of rs h) ≡ true → P) → P
by-record rs h P none down up = go (decided (has_record rs h)) (decided (is_up (record_of rs h)))
  where
    go : (has_record rs h ≡ true) ⊎ (has_record rs h ≡ false) → (is_up (record_of rs h) ≡ true) ⊎ (is_up (record_of rs h) ≡ false) → P
    go (inr e) u = none e
    go (inl e) (inr u) = down e u
    go (inl e) (inl u) = up e u

module _ (rs : List HopRecord) (s : Said) (n : ℕ) where
  pub same-many : length (records_after rs s n) ≡ length rs
  same-many =
      by-record rs (hop_of s) _ (λ e. rw (after_none rs s n e)) (λ e u. rw (after-down rs s n u))
      (λ e u. rw (after-up rs s n e u) (length-set rs _ _))

  -- no route and lookup's refusals add nothing
  pub no-hop-adds : hop_of s ≡ 0 → records_after rs s n ≡ rs
  no-hop-adds e = after_none rs s n (record-not rs (hop_of s) (inl (omega arith)))

  -- "A forwarded packet adds one packet and its octets to its own record": the record of its hop is counted if it is up
  pub forward-own : (k : ℕ) → hop_of s ≡ suc k → k < length rs → k < 32767 → get_or (records_after rs s n) k no_record ≡ sent_by (get_or rs k no_record) n
  forward-own k e h b = go (decided (is_up (get_or rs k no_record)))
    where
      its : hop_of s - 1 ≡ k
      its = omega arith

      go : (is_up (get_or rs k no_record) ≡ true) ⊎ (is_up (get_or rs k no_record) ≡ false) → get_or (records_after rs s n) k no_record ≡ sent_by (get_or rs k no_record) n
      go (inr u) = rw (after-down rs s n (rw its u), u)
      go (inl u) =
          rw (after-up rs s n (record_is rs (hop_of s) (omega arith) (omega arith)) (rw its u), u, its) (get_or-set_same rs k _ no_record h)

  -- "and no other record changes"
  pub forward-others : (k : ℕ) → hop_of s ≢ suc k → get_or (records_after rs s n) k no_record ≡ get_or rs k no_record
  forward-others k d =
      by-record rs (hop_of s) _ (λ e. rw (after_none rs s n e)) (λ e u. rw (after-down rs s n u))
      (λ e u. rw (after-up rs s n e u) (get_or-set_other rs (hop_of s - 1) k _ no_record (λ q. d (others e q))))
    where
      others : has_record rs (hop_of s) ≡ true → k ≡ hop_of s - 1 → hop_of s ≡ suc k
      others e q = go (below? (hop_of s) 1)
        where
          go : (hop_of s < 1) ⊎ (1 ≤ hop_of s) → hop_of s ≡ suc k
          go (inl l) = absurd (true≢false (sym e ∙ record-not rs (hop_of s) (inl l)))
          go (inr l) = omega arith

  -- nor does any of those that no hop has
  pub beyond-stays : (k : ℕ) → 32767 ≤ k → get_or (records_after rs s n) k no_record ≡ get_or rs k no_record
  beyond-stays k b =
      by-record rs (hop_of s) _ (λ e. rw (after_none rs s n e)) (λ e u. rw (after-down rs s n u))
      (λ e u. forward-others k (λ q. true≢false (sym e ∙ record-not rs (hop_of s) (inr (omega arith)))))

-- port and mark stay
module _ (r : HopRecord) (n : ℕ) where
  sent-port : (sent_by r n).port ≡ r.port
  sent-port = go (is_up r)
    where
      go : (b : Bool) → (cond b (counted_by r n) r).port ≡ r.port
      go true = refl
      go false = refl

  sent-mark : (sent_by r n).up ≡ r.up
  sent-mark = go (is_up r)
    where
      go : (b : Bool) → (cond b (counted_by r n) r).up ≡ r.up
      go true = refl
      go false = refl

-- the record at a place after a packet, in one word: as it was, or as it is sent to
after-at : (P : HopRecord → Type 0) (rs : List HopRecord) (s : Said) (n k : ℕ) → P (get_or rs k no_record) → P (sent_by (get_or rs k no_record) n)
    → P (get_or (records_after rs s n) k no_record)
after-at P rs s n k was sent = go (equal? (hop_of s) (suc k)) (below? k (min (length rs) 32767))
  where
    go : (hop_of s ≡ suc k) ⊎ (hop_of s ≢ suc k) → (k < min (length rs) 32767) ⊎ (min (length rs) 32767 ≤ k) → P (get_or (records_after rs s n) k no_record)
    go (inr d) l = subst P (sym (forward-others rs s n k d)) was
    go (inl e) (inl l) = subst P (sym (forward-own rs s n k e (omega arith) (omega arith))) sent
    go (inl e) (inr l) =
        subst (λ (zs : List HopRecord). P (get_or zs k no_record)) (sym (after_none rs s n (record-not rs (hop_of s) (inr (omega arith))))) was

pub keeps-port : (rs : List HopRecord) (s : Said) (n k : ℕ) → (get_or (records_after rs s n) k no_record).port ≡ (get_or rs k no_record).port
keeps-port rs s n k = after-at (λ (r : HopRecord). r.port ≡ (get_or rs k no_record).port) rs s n k refl (sent-port (get_or rs k no_record) n)

pub keeps-mark : (rs : List HopRecord) (s : Said) (n k : ℕ) → (get_or (records_after rs s n) k no_record).up ≡ (get_or rs k no_record).up
keeps-mark rs s n k = after-at (λ (r : HopRecord). r.up ≡ (get_or rs k no_record).up) rs s n k refl (sent-mark (get_or rs k no_record) n)

-- 14, 15 and lookup's refusals add nothing
pub refused-adds : (rs : List HopRecord) (s : Said) (n : ℕ) → accepts (forward_said rs s) ≡ false → records_after rs s n ≡ rs
refused-adds rs (refused k) n e = no-hop-adds rs (refused k) n refl
refused-adds rs (refused_at k i) n e = no-hop-adds rs (refused_at k i) n refl
refused-adds rs (accepted []) n e = no-hop-adds rs (accepted []) n refl
refused-adds rs (accepted (m ∷ [])) n e = no-hop-adds rs (accepted (m ∷ [])) n refl
refused-adds rs (accepted (m ∷ h ∷ vs)) n e =
    by-record rs h _ (after_none rs _ n) (λ r u. after-down rs _ n u)
    (λ r u. let q : accepts (port_said rs m h) ≡ true = rw (port-up rs m h r u) in absurd (true≢false (sym q ∙ e)))
