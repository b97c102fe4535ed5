-- The statements of forwarding and of counting: rs are the records lent, n the packet's octets, r the answer and zs the records at exit.
use Rattle.std.specs.Prelude.{◌≡◌, ℕ, List}
use Rattle.routes.specs.Said.{Said}
use Rattle.sail.specs.Word.{said_of}
use Rattle.hop_records.specs.Forward.{forward_said, records_after, pack_forward, counted_word}
use Rattle.hop_records.specs.declared.HopRecord.{HopRecord}

-- s is what the lookup says
abbrev pub MeetsForward : List HopRecord → Said → ℕ → ℕ → List HopRecord → Type 0
MeetsForward rs s n r zs = (r ≡ pack_forward (forward_said rs s)) × (zs ≡ records_after rs s n)

-- w is a lookup's number, or any other
abbrev pub MeetsCount : List HopRecord → ℕ → ℕ → ℕ → List HopRecord → Type 0
MeetsCount rs w n r zs = (r ≡ counted_word rs w) × (zs ≡ records_after rs (said_of w) n)
