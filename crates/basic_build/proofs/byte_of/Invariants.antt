-- The invariant: the number has the bits so far.
use Rattle.std.specs.Prelude.{◌≡◌, ◌+◌, ◌*◌, ◌<◌}
use Rattle.bits.specs.Bit.{packed_bits}
use Rattle.basic.specs.Maps.{hop_there}
use Rattle.basic_build.proofs.byte_of.Given as goal

abbrev pub invariant-loop-b : goal.invariant-loop-b
invariant-loop-b l = (l.byte ≡ packed_bits (λ k. hop_there l.cells (8 * l.j + k)) l.b) × (l.byte < 256)
