-- `repair_leaves::off_zero`. The invariant: `m` of the cells before `x` are not zero.
use Prim.Native.Nat.{◌-◌}
use lib.ListN.{length, get_or}
use Rattle.repair_leaves.specs.Leaves.{off_zero}
use Rattle.repair_leaves.proofs.Counts.{Counting}
use Rattle.repair_leaves.proofs.off_zero.Given as goal

abbrev pub invariant-loop-x : goal.invariant-loop-x
invariant-loop-x l = Counting (λ i. off_zero (get_or l.part i 0)) (length l.part) l.m l.x-index
