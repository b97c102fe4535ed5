-- `bits::cut`. An address with every bit after the first len zero.
use Rattle.bits.proofs.Masks.{cut-mask}
use Rattle.bits.proofs.cut.Goals as goal

pub returns : goal.returns
returns c = cut-mask _ _ _ c.requires c.ranges.addr.fits c.mask.ensures
