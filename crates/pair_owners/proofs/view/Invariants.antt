-- `pair_owners::view`. The invariant: the owners before `c` are done.
use mathlib.Core.Path.{◌≡◌}
use Prim.Native.Nat.{ℕ, ◌<◌}
use lib.ListN.{length, get_or}
use Rattle.pair.specs.Party.{party_of, seen}
use Rattle.pair_owners.proofs.view.Given as goal

abbrev pub invariant-loop-c : goal.invariant-loop-c
invariant-loop-c l =
    (length l.out ≡ length l.own) × ((k : ℕ) → k < l.c → get_or l.out k 0 ≡ seen (party_of l.guest) (get_or l.own k 0))
