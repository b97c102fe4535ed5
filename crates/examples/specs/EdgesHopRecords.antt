-- Packets and hop records (document 02, a) at the limits: 14 and 15 on both sides, lookup's own answers before them, the counts before and after the
-- wrap, and every kind of number in the place of a lookup's.
use Rattle.std.specs.Prelude.{cond, List, [], ◌∷◌, ℕ, ◌+◌, ◌*◌, ◌^◌, eqb, get_or, replicate}
use Rattle.bits.specs.Tab.{tabulate}
use Rattle.routes.specs.Said.{Said, accepted, refused, hop_after, no_route_after}
use Rattle.hop_records.specs.Records.{no_record}
use Rattle.hop_records.specs.Forward.{forward_said, records_after, counted_word}
use Rattle.hop_records.specs.declared.HopRecord.{HopRecord}
use Rattle.examples.specs.Lines.{Line, ◌gives◌}

abbrev pub hop_record : ℕ → ℕ → ℕ → ℕ → HopRecord
hop_record port up packets octets = record { port = port; up = up; packets = packets; octets = octets }

-- n records, of hop h with port 100 + h and nothing counted; that of hop 57 is r
unfoldable pub holding : ℕ → HopRecord → List HopRecord
holding n r = tabulate n (λ k. cond (eqb k 56) r (hop_record (101 + k) 1 0 0))

-- n records, all alike
abbrev pub alike : ℕ → HopRecord → List HopRecord
alike n r = replicate n r

-- the record of hop 57, about to wrap
abbrev pub full : HopRecord
full = hop_record 157 1 4294967295 4294967000

pub data Asked : Type 0 where
  -- forwarded, of what a lookup says
  forward : List HopRecord → Said → Asked
  -- the record at place k, from 0, after it, by the octets of the packet
  left : List HopRecord → Said → ℕ → ℕ → Asked
  -- counted by a number
  count : List HopRecord → ℕ → Asked

abbrev fields : HopRecord → List ℕ
fields r = r.port ∷ r.up ∷ r.packets ∷ r.octets ∷ []

unfoldable pub answer : Asked → Said
answer (forward rs s) = forward_said rs s
answer (left rs s n k) = accepted (fields (get_or (records_after rs s n) k no_record))
answer (count rs w) = accepted (counted_word rs w ∷ [])

-- a record with these four
abbrev is : ℕ → ℕ → ℕ → ℕ → Said
is port up packets octets = accepted (port ∷ up ∷ packets ∷ octets ∷ [])

abbrev numbered : ℕ → Said
numbered w = accepted (w ∷ [])

unfoldable pub edges : List (Line Asked)
edges =
    -- "The answer is lookup's, with the port"; 10.1.2.200 and 10.1.2.5 of list A
    (forward (holding 57 full) (hop_after 3 57) gives accepted (3 ∷ 57 ∷ 157 ∷ []))
    ∷ (forward (holding 57 full) (hop_after 3 44) gives accepted (3 ∷ 44 ∷ 144 ∷ []))
    ∷ (forward (holding 57 full) (no_route_after 1) gives no_route_after 1)
    ∷ (forward (alike 1 full) (hop_after 1 1) gives accepted (1 ∷ 1 ∷ 157 ∷ []))
    -- "14, the hop has no record"
    ∷ (forward (holding 56 full) (hop_after 3 57) gives refused 14)
    ∷ (forward (holding 56 full) (hop_after 3 56) gives accepted (3 ∷ 56 ∷ 156 ∷ []))
    ∷ (forward [] (hop_after 1 1) gives refused 14)
    ∷ (forward [] (no_route_after 1) gives no_route_after 1)
    ∷ (forward (alike 32767 full) (hop_after 1 32767) gives accepted (1 ∷ 32767 ∷ 157 ∷ []))
    ∷ (forward (alike 32766 full) (hop_after 1 32767) gives refused 14)
    ∷ (forward (alike 32768 full) (hop_after 1 32768) gives refused 14)
    -- "15, the record is down": 1 is up and every other mark down
    ∷ (forward (holding 57 (hop_record 157 0 0 0)) (hop_after 3 57) gives refused 15)
    ∷ (forward (holding 57 (hop_record 157 2 0 0)) (hop_after 3 57) gives refused 15)
    ∷ (forward (holding 57 (hop_record 157 255 0 0)) (hop_after 3 57) gives refused 15)
    -- "after lookup's own", and 14 before 15
    ∷ (forward [] (refused 1) gives refused 1)
    ∷ (forward [] (refused 2) gives refused 2)
    ∷ (forward (alike 57 no_record) (refused 5) gives refused 5)
    ∷ (forward (alike 56 no_record) (hop_after 3 57) gives refused 14)
    -- "after 4,294,967,295 the next value is 0", of packets and of octets; no other record changes
    ∷ (left (holding 57 full) (hop_after 3 57) 1500 56 gives is 157 1 0 1204)
    ∷ (left (holding 57 full) (hop_after 3 57) 1500 55 gives is 156 1 0 0)
    ∷ (left (holding 57 full) (hop_after 3 57) 1500 0 gives is 101 1 0 0)
    ∷ (left (holding 57 (hop_record 157 1 4294967294 4294967000)) (hop_after 3 57) 295 56 gives is 157 1 4294967295 4294967295)
    ∷ (left (holding 57 (hop_record 157 1 0 4294967000)) (hop_after 3 57) 296 56 gives is 157 1 1 0)
    ∷ (left (holding 57 (hop_record 157 1 7 0)) (hop_after 3 57) 4294967295 56 gives is 157 1 8 4294967295)
    ∷ (left (holding 57 (hop_record 157 1 7 1)) (hop_after 3 57) 4294967295 56 gives is 157 1 8 0)
    -- no route, 14, 15 and lookup's refusals add nothing
    ∷ (left (holding 57 full) (no_route_after 1) 1500 56 gives is 157 1 4294967295 4294967000)
    ∷ (left (holding 57 full) (refused 5) 1500 56 gives is 157 1 4294967295 4294967000)
    ∷ (left (holding 57 full) (hop_after 3 58) 1500 56 gives is 157 1 4294967295 4294967000)
    ∷ (left (holding 57 (hop_record 157 2 5 6)) (hop_after 3 57) 1500 56 gives is 157 2 5 6)
    -- counted by a lookup's number: a hop, no route, a refusal
    ∷ (count (holding 57 full) (768 + 57 * 65536) gives numbered (768 + 57 * 65536 + 157 * 2 ^ 32))
    ∷ (count (holding 56 full) (768 + 57 * 65536) gives numbered 14)
    ∷ (count (holding 57 (hop_record 157 0 0 0)) (768 + 57 * 65536) gives numbered 15)
    ∷ (count (holding 57 full) 256 gives numbered 256)
    ∷ (count (holding 57 full) 5 gives numbered 5)
    -- and by any other: one with a refusal's number in bits 0 to 7, or nothing from bit 16 on, is answered as it is
    ∷ (count (holding 57 full) 0 gives numbered 0)
    ∷ (count (holding 57 full) 65280 gives numbered 65280)
    ∷ (count (holding 57 full) (10 + 256 + 3 * 2 ^ 32) gives numbered (10 + 256 + 3 * 2 ^ 32))
    ∷ (count (holding 57 full) (57 * 65536 + 1) gives numbered (57 * 65536 + 1))
    ∷ (count (holding 57 full) 18446744073709551615 gives numbered 18446744073709551615)
    -- a hop over 32,767 has no record, with anything over bit 31 too
    ∷ (count (holding 57 full) 65536 gives numbered (65536 + 101 * 2 ^ 32))
    ∷ (count (alike 32768 full) (32767 * 65536) gives numbered (32767 * 65536 + 157 * 2 ^ 32))
    ∷ (count (alike 32768 full) (32768 * 65536) gives numbered 14)
    ∷ (count (holding 57 full) (57 * 65536 + 2 ^ 32) gives numbered 14)
    ∷ (count (holding 57 full) (2 ^ 32) gives numbered 14)
    ∷ []
