-- `hop_records::place`: the hop less one, or past the end.
use Rattle.hop_records.proofs.Steps.{place-hop, place-large, place_none, place-off}
use Rattle.hop_records.proofs.place.Goals as goal

pub returns-then-w-lt2147483648 : goal.returns-then-w-lt2147483648
returns-then-w-lt2147483648 c = search place-hop

pub returns-else-w-lt2147483648 : goal.returns-else-w-lt2147483648
returns-else-w-lt2147483648 c = search place-large

pub returns-else-w-ge65536 : goal.returns-else-w-ge65536
returns-else-w-ge65536 c = search place_none

pub returns-else-w-eq0 : goal.returns-else-w-eq0
returns-else-w-eq0 c = search place-off
