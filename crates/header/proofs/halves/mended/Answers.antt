-- `header::halves::mended`: two sums, and the complement.
use Rattle.header.proofs.Faults.{mended-told}
use Rattle.header.proofs.halves.mended.Goals as goal

pub returns : goal.returns
returns c = mended-told _ _ _ _ c.add.ensures.0 c.add-2.ensures
