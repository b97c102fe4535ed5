-- One law for each case of the answer.
use native.Mathlib.Omega.{arith}
use Rattle.routes.specs.Said.{packed}
use Rattle.numbered.specs.Numbers.{said_numbered}
use Rattle.packing.proofs.Refusals.{packs-err}
use Rattle.packing_images.proofs.built.Goals as goal

pub returns-in-Ok : goal.returns-in-Ok
unfolding packed said_numbered
returns-in-Ok g c = rw c.in-Ok.is (omega (arith, c.used.ensures))

pub returns-in-Err : goal.returns-in-Err
returns-in-Err g c = rw (c.refused.ensures, c.in-Err.is) (packs-err _ _ _ _)
