-- A law for each way out of the code: of a word's place, and of the record at a place.
use Rattle.std.proofs.Common.{◌≡◌, ℕ, ◌-◌, ◌/◌, ◌%◌, ◌<◌, ◌≤◌, List, length, get_or, set, sym, ap, le-ltb, lt-ltb, eq-eqb, ne_eqb, le-leb}
use lib.Seq.{set_out}
use borrow.Author.Tests.{lt-leb}
use Rattle.hop_records.specs.Records.{no_record}
use Rattle.hop_records.specs.Steps.{sent_by, sent, record_word, plain_word, send_word, place_of_hop}
use Rattle.hop_records.specs.declared.HopRecord.{HopRecord}

module _ (w : ℕ) where
  module _ (none : ℕ) where
    pub place-hop : w % 256 ≡ 0 → 65536 ≤ w → w < 2147483648 → w / 65536 - 1 ≡ place_of_hop w none
    unfolding place_of_hop
    place-hop e h l = rw (eq-eqb (w % 256) 0 e, le-leb 65536 w h, lt-ltb w 2147483648 l)

    pub place-large : w % 256 ≡ 0 → 65536 ≤ w → 2147483648 ≤ w → none ≡ place_of_hop w none
    unfolding place_of_hop
    place-large e h l = rw (eq-eqb (w % 256) 0 e, le-leb 65536 w h, le-ltb w 2147483648 l)

    pub place_none : w % 256 ≡ 0 → w < 65536 → none ≡ place_of_hop w none
    unfolding place_of_hop
    place_none e h = rw (eq-eqb (w % 256) 0 e, lt-leb 65536 w h)

    pub place-off : (w % 256 ≡ 0 → ⊥) → none ≡ place_of_hop w none
    unfolding place_of_hop
    place-off n = rw (ne_eqb (w % 256) 0 n)

  pub plain-hop : w % 256 ≡ 0 → 65536 ≤ w → 14 ≡ plain_word w
  plain-hop e h = rw (eq-eqb (w % 256) 0 e, le-leb 65536 w h)

-- the record at a place, and past the end
module _ (rs : List HopRecord) (k : ℕ) where
  pub send-word : (w none p : ℕ) → k < length rs → p ≡ record_word (get_or rs k no_record) w → p ≡ send_word rs k w none
  unfolding send_word
  send-word w none p h e = rw (lt-ltb k (length rs) h) e

  pub send-is : (n : ℕ) (r : HopRecord) → r ≡ sent_by (get_or rs k no_record) n → set rs k r ≡ sent rs k n
  unfolding sent
  send-is n r e = ap (set rs k) e

  pub past_word : (w none : ℕ) → length rs ≤ k → none ≡ send_word rs k w none
  unfolding send_word
  past_word w none h = rw (le-ltb k (length rs) h)

  pub past_is : (n : ℕ) → length rs ≤ k → rs ≡ sent rs k n
  unfolding sent
  past_is n h = sym (set_out rs k _ h)
