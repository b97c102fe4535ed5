-- One law for each case of the index.
use Rattle.routes.specs.Said.{packed}
use Rattle.packing.proofs.refused.Goals as goal

pub returns-in-Some : goal.returns-in-Some
unfolding packed
returns-in-Some g c = rw (← c.by_number-r.ensures, c.in-Some.is) c.refused_at.ensures

pub returns-in-None : goal.returns-in-None
unfolding packed
returns-in-None g c = rw (← c.by_number-r.ensures, c.in-None.is) c.from.ensures
