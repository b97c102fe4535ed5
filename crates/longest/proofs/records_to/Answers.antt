-- The place after the key of the first bits is the number of records up to them.
use Rattle.longest.proofs.Steps.{records-to-is}
use Rattle.longest.proofs.records_to.Goals as goal

pub returns : goal.returns
returns c = (search records-to-is, c.place.ensures.1)
