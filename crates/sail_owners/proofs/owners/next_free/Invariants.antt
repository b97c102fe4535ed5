-- `sail_owners::owners::next_free`, the lowest free chunk from some chunk on. The invariant: every chunk passed is in use.
use mathlib.Core.Logic.{◌≢◌}
use Prim.Native.Nat.{ℕ, ◌≤◌, ◌<◌}
use lib.ListN.{length, get_or}
use Rattle.sail_owners.proofs.owners.next_free.Given as goal

abbrev pub invariant-loop-c : goal.invariant-loop-c
invariant-loop-c l = (l.c ≤ length l.own) × ((j : ℕ) → j < l.c → get_or l.own j 0 ≢ 0)
