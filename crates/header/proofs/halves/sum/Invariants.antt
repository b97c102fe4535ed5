-- `header::halves::sum`. The invariant: s is the ones' complement sum of the first i halves, and has 16 bits. A turn adds half i.
use mathlib.Core.Path.{◌≡◌}
use Prim.Native.Nat.{◌<◌}
use Rattle.header.specs.Sums.{half_of, ones_sum}
use Rattle.header.proofs.halves.sum.Given as goal

abbrev pub invariant-loop-i : goal.invariant-loop-i
invariant-loop-i l = (l.s ≡ ones_sum (half_of l.packet) l.i) × (l.s < 65536)
