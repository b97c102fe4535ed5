-- The four numbers of a route have room, and stand where the layout has them.
use native.Mathlib.Omega.{arith}
use Rattle.routes.specs.Said.{packed}
use Rattle.packing_inputs.proofs.found.Goals as goal

pub returns-in-Some : goal.returns-in-Some
unfolding packed
returns-in-Some c = rw c.in-Some.is (omega (arith, c.route_number.ensures))

pub returns-in-None : goal.returns-in-None
unfolding packed
returns-in-None c = rw c.in-None.is (omega arith)
