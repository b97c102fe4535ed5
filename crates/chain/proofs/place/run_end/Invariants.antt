-- `chain::place::run_end`: The invariant: the words from lo up to k have the bits of the cell.
use Prim.Native.Nat.{◌≤◌}
use lib.ListN.{length}
use Rattle.chain.proofs.WordRuns.{InsideCell}
use Rattle.chain.proofs.place.run_end.Given as goal

abbrev pub invariant-loop-k : goal.invariant-loop-k
invariant-loop-k l = (l.lo ≤ l.k) × (l.k ≤ length l.ws) × InsideCell l.ws l.p l.i l.lo l.k
