-- One law for each case of the answer.
use native.Mathlib.Omega.{arith}
use Rattle.routes.specs.Said.{packed, said_plainly}
use Rattle.packing_images.proofs.tested.Goals as goal

pub returns-in-Ok : goal.returns-in-Ok
unfolding packed said_plainly
returns-in-Ok c = rw c.in-Ok.is (omega (arith, c.used.ensures))

pub returns-in-Err : goal.returns-in-Err
unfolding packed said_plainly
returns-in-Err c = rw c.in-Err.is (omega (arith, c.from.ensures, c.number.ensures))
