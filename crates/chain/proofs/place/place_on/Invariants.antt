-- `chain::place::place_on`: The invariant: the place is not before k.
use lib.ListN.{length}
use Rattle.chain.specs.Place.{Between}
use Rattle.chain.proofs.place.place_on.Given as goal

abbrev pub invariant-loop-k : goal.invariant-loop-k
invariant-loop-k l = Between l.ws l.key l.k (length l.ws)
