-- `sail_cells_test::free_all`: The invariant: each free chunk passed is zero.
use Prim.Native.Nat.{ℕ, ◌≤◌, ◌<◌}
use lib.ListN.{length, get_or}
use Rattle.sail_cells_test.specs.Pool.{FreeIsZero}
use Rattle.sail_cells_test.proofs.free_all.Given as goal

abbrev pub invariant-loop-c : goal.invariant-loop-c
invariant-loop-c l = (l.c ≤ length l.own) × ((k : ℕ) → k < l.c → FreeIsZero l.d l.cells k (get_or l.own k 0))
