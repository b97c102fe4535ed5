-- `repair_leaves::off_plan`. The invariant: `m` of the cells before `j` are planned as leaves and hold something else.
use Prim.Native.Nat.{◌-◌}
use lib.ListN.{length, get_or}
use Rattle.repair_leaves.specs.Leaves.{off_plan}
use Rattle.repair_leaves.proofs.Counts.{Counting}
use Rattle.repair_leaves.proofs.off_plan.Given as goal

abbrev pub invariant-loop-j : goal.invariant-loop-j
invariant-loop-j l = Counting (λ i. off_plan (get_or l.want i 0) (get_or l.part i 0)) (length l.part) l.m l.j
