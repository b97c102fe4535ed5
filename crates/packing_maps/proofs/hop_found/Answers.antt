-- One law for each case of the answer.
use mathlib.Core.Path.{◌∙◌}
use Rattle.numbered.specs.Numbers.{said_numbered}
use Rattle.packing_maps.proofs.Hops.{hop-packed}
use Rattle.packing.proofs.Refusals.{packs-err}
use Rattle.packing_maps.proofs.hop_found.Goals as goal

pub returns-in-Ok : goal.returns-in-Ok
unfolding said_numbered
returns-in-Ok g c = rw c.in-Ok.is (hop-packed _ _ (c.from.ensures ∙ c.unwrap_or.ensures))

pub returns-in-Err : goal.returns-in-Err
returns-in-Err g c = rw (c.refused.ensures, c.in-Err.is) (packs-err _ _ _ _)
