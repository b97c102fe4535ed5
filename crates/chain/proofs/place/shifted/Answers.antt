-- `chain::place::shifted`. A number of j digits, shifted by k.
use Rattle.chain.proofs.Places.{shifted-is}
use Rattle.chain.proofs.place.shifted.Goals as goal

pub returns : goal.returns
returns c = shifted-is _ _ _ c.requires.0 c.requires.1
