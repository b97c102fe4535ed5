-- `sail_counts_test::runs_ok`: The invariant: the cell of each run that began before word k has its true count.
use Prim.Native.Nat.{ℕ, ◌≤◌, ◌<◌}
use lib.ListN.{length}
use Rattle.sail_counts_test.specs.CountsTest.{RunTold}
use Rattle.sail_counts_test.proofs.runs_ok.Given as goal

abbrev pub invariant-loop-k : goal.invariant-loop-k
invariant-loop-k l = (l.k ≤ length l.ws) × ((j : ℕ) → j < l.k → RunTold l.ws l.p l.d l.above l.counts j)
