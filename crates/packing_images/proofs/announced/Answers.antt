-- The flag, the nodes and the hops stand where the layout has them.
use native.Mathlib.Omega.{arith}
use Rattle.routes.specs.Said.{packed}
use Rattle.numbered.specs.Numbers.{said_numbered}
use Rattle.packing.proofs.Refusals.{packs-err}
use Rattle.packing_images.proofs.announced.Goals as goal

pub returns-in-Added : goal.returns-in-Added
unfolding packed said_numbered
returns-in-Added g c = rw (c.in-Ok.is, c.in-Added.is) (omega (arith, c.used.ensures))

pub returns-in-Replaced : goal.returns-in-Replaced
unfolding packed said_numbered
returns-in-Replaced g c = rw (c.in-Ok.is, c.in-Replaced.is) (omega (arith, c.used-in-Replaced.ensures))

pub returns-in-Err : goal.returns-in-Err
returns-in-Err g c = rw (c.refused.ensures, c.in-Err.is) (packs-err _ _ _ _)
