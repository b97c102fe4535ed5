-- Bit `i % 8` of byte `i / 8`.
use Rattle.basic.proofs.Places.{set_told}
use Rattle.basic.proofs.maps.is_set.Goals as goal

pub returns : goal.returns
returns c = search set_told
