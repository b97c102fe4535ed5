-- Forwarding, by what a lookup says: "The answer is lookup's, with the port; no route adds nothing. Refusals, after lookup's own: 14, the hop has no
-- record; 15, the record is down". And counting, by a lookup's number.
use Rattle.std.specs.Prelude.{ℕ, ◌+◌, ◌-◌, ◌*◌, Bool, cond, ◌&&◌, List, [], ◌∷◌, slice_set}
use Rattle.routes.specs.Said.{Said, accepted, refused, refused_at, value}
unfoldable pub use Rattle.routes.specs.Said.{packed}
use Rattle.sail.specs.Word.{said_of, hop_in_word}
use Rattle.hop_records.specs.Records.{counted_by, is_up, has_record, record_of}
use Rattle.hop_records.specs.declared.HopRecord.{HopRecord}

-- hop h after n reads
unfoldable pub port_said : List HopRecord → ℕ → ℕ → Said
port_said rs n h =
    cond (has_record rs h)
    (cond (is_up (record_of rs h)) (accepted (n ∷ h ∷ (record_of rs h).port ∷ [])) (refused 15))
    (refused 14)

-- of what a lookup says
abbrev pub forward_said : List HopRecord → Said → Said
forward_said rs (accepted []) = accepted []
forward_said rs (accepted (n ∷ [])) = accepted (n ∷ [])
forward_said rs (accepted (n ∷ h ∷ vs)) = port_said rs n h
forward_said rs (refused k) = refused k
forward_said rs (refused_at k i) = refused_at k i

-- the hop of what a lookup says, 0 for none
abbrev pub hop_of : Said → ℕ
hop_of (accepted []) = 0
hop_of (accepted (n ∷ [])) = 0
hop_of (accepted (n ∷ h ∷ vs)) = h
hop_of (refused k) = 0
hop_of (refused_at k i) = 0

-- a packet of hop h is forwarded
abbrev pub forwards : List HopRecord → ℕ → Bool
forwards rs h = has_record rs h && is_up (record_of rs h)

-- the records after a packet of n octets: "A forwarded packet adds one packet and its octets to its own record, and no other record changes"
unfoldable pub records_after : List HopRecord → Said → ℕ → List HopRecord
records_after rs s n = cond (forwards rs (hop_of s)) (slice_set rs (hop_of s - 1) (counted_by (record_of rs (hop_of s)) n)) rs

-- as one number: the lookup's reads in bits 8 to 15, its hop in 16 to 31, the port in 32 to 47
abbrev pub pack_forward : Said → ℕ
pack_forward = packed (λ vs. value 0 vs * 256 + value 1 vs * 65536 + value 2 vs * 4294967296)

-- Counting alone, over any number w in the place of a lookup's: one without a hop is answered as it is, one with a hop as it is read (`said_of`)
unfoldable pub counted_word : List HopRecord → ℕ → ℕ
counted_word rs w = cond (hop_in_word w) (pack_forward (forward_said rs (said_of w))) w
