-- Packets one after the other: what they leave of the records, and how many go by a hop.
use Rattle.std.specs.Prelude.{ℕ, ◌+◌, ◌^◌, ◌<◌, cond, List, [], ◌∷◌, ◌==◌}
use Rattle.routes.specs.Said.{Said}
use Rattle.hop_records.specs.Records.{grown, is_up}
use Rattle.hop_records.specs.Forward.{hop_of, records_after}
use Rattle.hop_records.specs.declared.HopRecord.{HopRecord}

-- a packet: what the lookup of its address said, in the table as it then was, and its octets
pub record Packet : Type 0 where
  pub found : Said
  pub octets : ℕ

-- the first packet is the head of the list
unfoldable pub records_run : List HopRecord → List Packet → List HopRecord
records_run rs [] = rs
records_run rs (p ∷ ps) = records_run (records_after rs p.found p.octets) ps

-- how many have hop h, and their octets together
unfoldable pub packets_to : ℕ → List Packet → ℕ
packets_to h [] = 0
packets_to h (p ∷ ps) = cond (hop_of p.found == h) 1 0 + packets_to h ps

unfoldable pub octets_to : ℕ → List Packet → ℕ
octets_to h [] = 0
octets_to h (p ∷ ps) = cond (hop_of p.found == h) p.octets 0 + octets_to h ps

-- a record after m packets and n octets: the counts grow if it is up, the port and the mark stay
abbrev pub sent_many : HopRecord → ℕ → ℕ → HopRecord
sent_many r m n = cond (is_up r) (record { port = r.port; up = r.up; packets = grown r.packets m; octets = grown r.octets n }) r

-- counts within a Counter32, as the type u32 gives
pub record Counting (r : HopRecord) : Type 0 where
  pub packets : r.packets < 2 ^ 32
  pub octets : r.octets < 2 ^ 32
