-- The invariant: the bytes before `j` are done.
use Rattle.std.specs.Prelude.{◌≡◌, ℕ, ◌+◌, ◌*◌, ◌<◌, length, get_or}
use Rattle.bits.specs.Bit.{packed_bits}
use Rattle.basic.specs.Maps.{hop_there}
use Rattle.basic_build.proofs.put_bits.Given as goal

abbrev pub invariant-loop-j : goal.invariant-loop-j
invariant-loop-j l =
    (length l.bits ≡ 16384) × ((i : ℕ) → i < l.j → get_or l.bits i 0 ≡ packed_bits (λ b. hop_there l.cells (8 * i + b)) 8)
