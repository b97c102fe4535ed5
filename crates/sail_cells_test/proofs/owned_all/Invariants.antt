-- `sail_cells_test::owned_all`. Whether each chunk in use of a pool is right.
use mathlib.Core.Path.{◌≡◌}
use Prim.Native.Nat.{ℕ, ◌≤◌, ◌<◌}
use lib.ListN.{length, get_or}
use Rattle.chain.specs.Words.{routes_of_words}
use Rattle.sail_cells_test.specs.Pool.{OwnedChunk}
use Rattle.sail_cells_test.proofs.owned_all.Given as goal

abbrev pub invariant-loop-c : goal.invariant-loop-c
invariant-loop-c l =
    (l.c ≤ length l.own) × (length l.want ≡ 1024) ×
    ((k : ℕ) → k < l.c → OwnedChunk (routes_of_words l.ws) l.p l.d l.up l.e l.above l.cells l.below k (get_or l.own k 0))
