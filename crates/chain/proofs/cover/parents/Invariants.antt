-- `chain::cover::parents`. The invariant: the first k parents stand; at first they are those that stood.
use mathlib.Core.Path.{◌≡◌}
use Prim.Native.Nat.{◌≤◌}
use lib.ListN.{length}
use Rattle.chain.specs.Cover.{Parents}
use Rattle.chain.proofs.cover.parents.Given as goal

abbrev pub invariant-loop-k : goal.invariant-loop-k
invariant-loop-k l = (l.k ≤ length l.ws) × (length l.par ≡ length l.initial.par) × Parents l.ws l.par l.k
