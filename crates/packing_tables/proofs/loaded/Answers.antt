-- `packing_tables::loaded`. Each answer of load has its word: a refusal has no place for a count.
use native.Mathlib.Omega.{arith}
use Rattle.routes.specs.Said.{packed}
use Rattle.numbered.specs.Numbers.{said_numbered}
use Rattle.packing.proofs.Refusals.{packs-err}
use Rattle.packing_tables.proofs.loaded.Goals as goal

pub returns-in-Ok : goal.returns-in-Ok
unfolding said_numbered packed
returns-in-Ok g c = rw c.in-Ok.is (omega (arith, c.changed.ensures))

pub returns-in-Err : goal.returns-in-Err
returns-in-Err g c = rw (c.refused.ensures, c.in-Err.is) (packs-err _ _ _ _)
