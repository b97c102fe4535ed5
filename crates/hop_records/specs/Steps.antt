-- The steps of the code: the place of a word's record, the record at a place, the answers. What they come to is in proofs/Meanings.antt.
use Rattle.std.specs.Prelude.{ℕ, ◌+◌, ◌-◌, ◌*◌, ◌/◌, ◌%◌, cond, ◌&&◌, List, length, nat_lt, slice_index_or, slice_set}
use Rattle.sail.specs.Word.{hop_in_word}
use Rattle.hop_records.specs.Records.{no_record, counted_by, is_up}
use Rattle.hop_records.specs.declared.HopRecord.{HopRecord}

-- a record after a packet of n octets has come to it, and the list after one has come to place k; past the end nothing changes
abbrev pub sent_by : HopRecord → ℕ → HopRecord
sent_by r n = cond (is_up r) (counted_by r n) r

unfoldable pub sent : List HopRecord → ℕ → ℕ → List HopRecord
sent rs k n = slice_set rs k (sent_by (slice_index_or rs k no_record) n)

-- the answer to a word w with a record and without one, and that of place k; `none` past the end
abbrev pub record_word : HopRecord → ℕ → ℕ
record_word r w = cond (is_up r) (w % 4294967296 + r.port * 4294967296) 15

abbrev pub plain_word : ℕ → ℕ
plain_word w = cond (hop_in_word w) 14 w

unfoldable pub send_word : List HopRecord → ℕ → ℕ → ℕ → ℕ
send_word rs k w none = cond (nat_lt k (length rs)) (record_word (slice_index_or rs k no_record) w) none

-- the place, from 0, of the record of a word's hop; `none` without a hop, and for a number over 32,767
unfoldable pub place_of_hop : ℕ → ℕ → ℕ
place_of_hop w none = cond (hop_in_word w && nat_lt w 2147483648) (w / 65536 - 1) none
