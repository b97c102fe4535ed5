-- One hop record, a packet counted in it, and which hops have one.
use Rattle.std.specs.Prelude.{ℕ, ◌+◌, ◌-◌, ◌%◌, ◌^◌, min, Bool, ◌&&◌, List, length, ◌==◌, nat_le, slice_index_or}
use Rattle.hop_records.specs.declared.HopRecord.{HopRecord}

-- read past the end of a list
abbrev pub no_record : HopRecord
no_record = record { port = 0; up = 0; packets = 0; octets = 0 }

-- a Counter32 (RFC 2578) that has grown by n: "after 4,294,967,295 the next value is 0"
abbrev pub grown : ℕ → ℕ → ℕ
grown c n = (c + n) % 2 ^ 32

-- "adds one packet and its octets to its own record"
abbrev pub counted_by : HopRecord → ℕ → HopRecord
counted_by r n = record { port = r.port; up = r.up; packets = grown r.packets 1; octets = grown r.octets n }

-- a record is up if its mark is 1
abbrev pub is_up : HopRecord → Bool
is_up r = r.up == 1

-- "hop h at place h counted from 1". A hop is 1 to 32,767 (document 01): a record past that place belongs to none
unfoldable pub has_record : List HopRecord → ℕ → Bool
has_record rs h = nat_le 1 h && nat_le h (min (length rs) 32767)

abbrev pub record_of : List HopRecord → ℕ → HopRecord
record_of rs h = slice_index_or rs (h - 1) no_record
