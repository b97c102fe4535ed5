-- The invariant: no record of `m` bits or more covers the address.
use Prim.Native.Nat.{◌≤◌}
use Rattle.longest.proofs.Steps.{NoneFrom}
use Rattle.longest.proofs.longest_record.Given as goal

abbrev pub invariant-loop-m : goal.invariant-loop-m
invariant-loop-m l = (l.m ≤ 33) × NoneFrom l.list l.n l.addr l.m

abbrev pub decreases-loop-m : goal.decreases-loop-m
decreases-loop-m l = l.m
