-- The header step at its limits: every line is computed.
use mathlib.Core.Path.{refl}
use Rattle.header.specs.Sums.{ones_sum, mended_sum}
use Rattle.header.specs.Header.{header_fault, lowered}
use Rattle.header.specs.Step.{stepped}
use Rattle.examples.specs.Lines.{Hold}
use Rattle.examples.specs.EdgesHeaders.{answer, edges}

pub headers-hold : Hold answer edges
unfolding Hold edges answer stepped header_fault ones_sum lowered mended_sum
headers-hold = refl
