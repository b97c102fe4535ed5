-- `repair_keep::keep`. The invariant: what is kept of the first `k` records is written, and `least` is what is asked of the next key.
use Rattle.std.specs.Prelude.{◌≡◌, ◌^◌, ◌≤◌, length}
use Rattle.repair_keep.proofs.Keeps.{KeptSoFar}
use Rattle.repair_keep.proofs.keep.Given as goal

abbrev pub invariant-loop-k : goal.invariant-loop-k
invariant-loop-k l = (l.m ≤ l.k) × (l.least ≤ 2 ^ 40) × (length l.out ≡ 32768) × KeptSoFar l.list l.k l.least l.m l.out
