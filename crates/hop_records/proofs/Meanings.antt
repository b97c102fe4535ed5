-- What the steps of the code come to, for every word: the answer and the records of `MeetsCount`. And for a lookup's word, those of `MeetsForward`.
-- A word without a hop has no place, so nothing is sent and it is answered as it is. One with a hop has the place before its hop's, if that is
-- a place of the list at all: the answer there, and 14 past the end, are the three cases of `port_said`.
use Rattle.std.proofs.Common.{◌≡◌, ℕ, ◌+◌, ◌-◌, ◌*◌, ◌/◌, ◌%◌, ◌<◌, ◌≤◌, min, Bool, true, false, cond, ◌&&◌, leb, ◌≢◌, ◌⊎◌, List, [], ◌∷◌, length, get_or, set, sym, refl, ap, ◌∙◌, inl, inr, true≢false, arith, lt-ltb, eq-eqb, ne_eqb, le-leb}
use lib.Seq.{set-get_or}
use borrow.Author.Tests.{lt-leb}
use Rattle.bits.proofs.Bools.{below?, equal?, decided}
use Rattle.routes.specs.Said.{Said, accepted, refused, refused_at}
use Rattle.standing.specs.Served.{hop_said}
use Rattle.sail.specs.Word.{pack_found, said_of, Word, has_hop, hop_in_word}
use Rattle.sail.proofs.Words.{says-number, says_none, says-hop, word-hop}
use Rattle.hop_records.specs.Records.{no_record, counted_by, is_up, has_record, record_of}
use Rattle.hop_records.specs.Forward.{packed, port_said, forward_said, hop_of, records_after, pack_forward, counted_word}
use Rattle.hop_records.specs.Contract.{MeetsForward, MeetsCount}
use Rattle.hop_records.specs.Steps.{sent, record_word, plain_word, send_word, place_of_hop}
use Rattle.hop_records.specs.declared.HopRecord.{HopRecord}
use Rattle.hop_records.proofs.Steps.{place-hop, place-large, plain-hop, past_word, past_is}

and-fails : (a : Bool) {b : Bool} → b ≡ false → (a && b) ≡ false
and-fails true e = e
and-fails false e = refl

-- a hop has a record, or none
module _ (rs : List HopRecord) (h : ℕ) where
  pub record_is : 1 ≤ h → h ≤ min (length rs) 32767 → has_record rs h ≡ true
  unfolding has_record
  record_is a b = rw (le-leb 1 h a, le-leb h (min (length rs) 32767) b)

  pub record-not : (h < 1) ⊎ (min (length rs) 32767 < h) → has_record rs h ≡ false
  unfolding has_record
  record-not (inl a) = rw (lt-leb 1 h a)
  record-not (inr b) = and-fails (leb 1 h) (lt-leb h (min (length rs) 32767) b)

-- what is said of hop h after n reads: 14, 15, the port
module _ (rs : List HopRecord) (n h : ℕ) where
  pub port-none : has_record rs h ≡ false → port_said rs n h ≡ refused 14
  unfolding port_said
  port-none e = rw e

  module _ (e : has_record rs h ≡ true) where
    pub port-down : is_up (record_of rs h) ≡ false → port_said rs n h ≡ refused 15
    unfolding port_said
    port-down u = rw (e, u)

    pub port-up : is_up (record_of rs h) ≡ true → port_said rs n h ≡ accepted (n ∷ h ∷ (record_of rs h).port ∷ [])
    unfolding port_said
    port-up u = rw (e, u)

-- and the records after it
module _ (rs : List HopRecord) (s : Said) (n : ℕ) where
  pub after_none : has_record rs (hop_of s) ≡ false → records_after rs s n ≡ rs
  unfolding records_after
  after_none e = rw e

  pub after-down : is_up (record_of rs (hop_of s)) ≡ false → records_after rs s n ≡ rs
  unfolding records_after
  after-down u = rw (and-fails (has_record rs (hop_of s)) u)

  pub after-up : has_record rs (hop_of s) ≡ true → is_up (record_of rs (hop_of s)) ≡ true
      → records_after rs s n ≡ set rs (hop_of s - 1) (counted_by (record_of rs (hop_of s)) n)
  unfolding records_after
  after-up e u = rw (e, u)

-- a packet that comes to place k
module _ (rs : List HopRecord) (k : ℕ) where
  sent-down : (n : ℕ) → is_up (get_or rs k no_record) ≡ false → sent rs k n ≡ rs
  unfolding sent
  sent-down n u = rw u (set-get_or rs k no_record)

  sent-up : (n : ℕ) → is_up (get_or rs k no_record) ≡ true → sent rs k n ≡ set rs k (counted_by (get_or rs k no_record) n)
  unfolding sent
  sent-up n u = rw u

  word-at : (w none : ℕ) → k < length rs → send_word rs k w none ≡ record_word (get_or rs k no_record) w
  unfolding send_word
  word-at w none h = rw (lt-ltb k (length rs) h)

-- the three kinds of words
data Reading (w : ℕ) : Type 0 where
  number : w % 256 ≢ 0 → Reading w
  none : w % 256 ≡ 0 → w < 65536 → Reading w
  hop : w % 256 ≡ 0 → 65536 ≤ w → Reading w

reading : (w : ℕ) → Reading w
reading w = go (equal? (w % 256) 0) (below? w 65536)
  where
    go : (w % 256 ≡ 0) ⊎ (w % 256 ≢ 0) → (w < 65536) ⊎ (65536 ≤ w) → Reading w
    go (inr n) z = number n
    go (inl e) (inl z) = none e z
    go (inl e) (inr z) = hop e z

module _ (rs : List HopRecord) (w : ℕ) where
  abbrev place : ℕ
  place = place_of_hop w (length rs)

  -- the word's hop, and the reads before it
  abbrev h : ℕ
  h = w / 65536

  abbrev reads : ℕ
  reads = w / 256 % 256

  -- a word without a hop: past the end, and answered as it is
  plain-past : hop_in_word w ≡ false → place ≡ length rs
  unfolding place_of_hop
  plain-past e = rw e

  plain-answer : hop_in_word w ≡ false → send_word rs place w (plain_word w) ≡ counted_word rs w
  unfolding counted_word
  plain-answer e =
      ap (λ (k : ℕ). send_word rs k w (plain_word w)) (plain-past e) ∙ sym (past_word rs (length rs) w (plain_word w) (omega arith)) ∙ rw e

  -- a word with a hop
  module _ (e : w % 256 ≡ 0) (z : 65536 ≤ w) where
    says : said_of w ≡ accepted (reads ∷ h ∷ [])
    says = sym (says-hop w e reads refl (λ q. omega arith))

    hop-counted : counted_word rs w ≡ pack_forward (port_said rs reads h)
    unfolding counted_word
    hop-counted = rw (eq-eqb (w % 256) 0 e, le-leb 65536 w z) (ap (λ (s : Said). pack_forward (forward_said rs s)) says)

    past : min (length rs) 32767 < h → length rs ≤ place
    past l = go (below? w 2147483648)
      where
        go : (w < 2147483648) ⊎ (2147483648 ≤ w) → length rs ≤ place
        go (inl b) = rw (← place-hop w (length rs) e z b) (omega arith)
        go (inr b) = rw (← place-large w (length rs) e z b) (omega arith)

    there : h ≤ min (length rs) 32767 → place ≡ h - 1
    there l = sym (place-hop w (length rs) e z (omega arith))

    hop-answer : (min (length rs) 32767 < h) ⊎ (h ≤ min (length rs) 32767) → (is_up (record_of rs h) ≡ true) ⊎ (is_up (record_of rs h) ≡ false)
        → send_word rs place w (plain_word w) ≡ counted_word rs w
    unfolding packed
    hop-answer (inl l) u =
        sym (past_word rs place w (plain_word w) (past l)) ∙ sym (plain-hop w e z)
        ∙ sym (hop-counted ∙ ap pack_forward (port-none rs reads h (record-not rs h (inr l))))
    hop-answer (inr l) u =
        ap (λ (k : ℕ). send_word rs k w (plain_word w)) (there l) ∙ word-at rs (h - 1) w (plain_word w) (omega arith)
        ∙ go u (record_is rs h (omega arith) l) ∙ sym hop-counted
      where
        go : (is_up (record_of rs h) ≡ true) ⊎ (is_up (record_of rs h) ≡ false) → has_record rs h ≡ true
            → record_word (record_of rs h) w ≡ pack_forward (port_said rs reads h)
        go (inr d) r = rw d (sym (ap pack_forward (port-down rs reads h r d)))
        go (inl d) r =
            let v : w % 4294967296 + (record_of rs h).port * 4294967296 ≡ reads * 256 + h * 65536 + (record_of rs h).port * 4294967296 = omega arith in
            rw d (v ∙ sym (ap pack_forward (port-up rs reads h r d)))

    hop-records : (n : ℕ) → (min (length rs) 32767 < h) ⊎ (h ≤ min (length rs) 32767) → (is_up (record_of rs h) ≡ true) ⊎ (is_up (record_of rs h) ≡ false)
        → sent rs place n ≡ records_after rs (accepted (reads ∷ h ∷ [])) n
    hop-records n (inl l) u = sym (past_is rs place n (past l)) ∙ sym (after_none rs _ n (record-not rs h (inr l)))
    hop-records n (inr l) (inr d) =
        ap (λ (k : ℕ). sent rs k n) (there l) ∙ sent-down rs (h - 1) n d ∙ sym (after-down rs (accepted (reads ∷ h ∷ [])) n d)
    hop-records n (inr l) (inl d) =
        ap (λ (k : ℕ). sent rs k n) (there l) ∙ sent-up rs (h - 1) n d
        ∙ sym (after-up rs (accepted (reads ∷ h ∷ [])) n (record_is rs h (omega arith) l) d)

  -- what the steps answer
  answer-is : send_word rs place w (plain_word w) ≡ counted_word rs w
  answer-is = go (reading w)
    where
      go : Reading w → send_word rs place w (plain_word w) ≡ counted_word rs w
      go (Reading.number n) = plain-answer (rw (ne_eqb (w % 256) 0 n))
      go (Reading.none e z) = plain-answer (rw (eq-eqb (w % 256) 0 e, lt-leb 65536 w z))
      go (Reading.hop e z) = hop-answer e z (below? (min (length rs) 32767) h) (decided (is_up (record_of rs h)))

  -- and leave
  records-are : (n : ℕ) → sent rs place n ≡ records_after rs (said_of w) n
  unfolding said_of hop_said
  records-are n = go (reading w)
    where
      go : Reading w → sent rs place n ≡ records_after rs (said_of w) n
      go (Reading.number m) =
          ap (λ (k : ℕ). sent rs k n) (plain-past (rw (ne_eqb (w % 256) 0 m))) ∙ sym (past_is rs (length rs) n (omega arith))
          ∙ sym (ap (λ (s : Said). records_after rs s n) (sym (says-number w m)) ∙ after_none rs (refused (w % 256)) n
          (record-not rs 0 (inl (omega arith))))
      go (Reading.none e z) =
          ap (λ (k : ℕ). sent rs k n) (plain-past (rw (eq-eqb (w % 256) 0 e, lt-leb 65536 w z))) ∙ sym (past_is rs (length rs) n (omega arith))
          ∙ sym (ap (λ (s : Said). records_after rs s n) (sym (says_none w e reads refl (omega arith)))
          ∙ after_none rs (accepted (reads ∷ [])) n (record-not rs 0 (inl (omega arith))))
      go (Reading.hop e z) =
          hop-records e z n (below? (min (length rs) 32767) h) (decided (is_up (record_of rs h)))
          ∙ sym (ap (λ (s : Said). records_after rs s n) (says e z))

  -- the three steps meet the statement of counting
  pub count_meets : (zs : List HopRecord) (n k q r : ℕ) → k ≡ place → q ≡ plain_word w → r ≡ send_word rs k w q → zs ≡ sent rs k n
      → MeetsCount rs w n r zs
  count_meets zs n k q r ek eq er ez = (
    er ∙ ap (λ (x : ℕ). send_word rs x w q) ek ∙ ap (send_word rs place w) eq ∙ answer-is,
    ez ∙ ap (λ (x : ℕ). sent rs x n) ek ∙ records-are n,
  )

-- an answer without a hop is a lookup's
plain-pack : (rs : List HopRecord) (s : Said) → has_hop s ≡ false → pack_found s ≡ pack_forward (forward_said rs s)
unfolding packed
plain-pack rs (accepted []) e = refl
plain-pack rs (accepted (n ∷ [])) e = omega arith
plain-pack rs (accepted (n ∷ k ∷ vs)) e = absurd (true≢false (sym (lt-ltb 1 (length (n ∷ k ∷ vs)) (omega arith)) ∙ e))
plain-pack rs (refused k) e = refl
plain-pack rs (refused_at k i) e = refl

-- a lookup's word: counting it is forwarding
module _ (rs : List HopRecord) (w : ℕ) (s : Said) (word : Word w s) where
  pub counted-said : counted_word rs w ≡ pack_forward (forward_said rs s)
  unfolding counted_word
  counted-said = go (decided (hop_in_word w))
    where
      go : (hop_in_word w ≡ true) ⊎ (hop_in_word w ≡ false)
          → cond (hop_in_word w) (pack_forward (forward_said rs (said_of w))) w ≡ pack_forward (forward_said rs s)
      go (inl e) = rw e (ap (λ (x : Said). pack_forward (forward_said rs x)) word.back)
      go (inr e) = rw e (word.packs ∙ plain-pack rs s (sym (word-hop w s word) ∙ e))

  pub count-forwards : (n r : ℕ) (zs : List HopRecord) → MeetsCount rs w n r zs → MeetsForward rs s n r zs
  count-forwards n r zs m = (m.0 ∙ counted-said, m.1 ∙ ap (λ (x : Said). records_after rs x n) word.back)
