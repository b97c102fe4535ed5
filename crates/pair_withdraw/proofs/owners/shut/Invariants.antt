-- `pair_withdraw::owners::shut`. The invariant: the owners before `c` are done, those from `c` on are as they were.
use mathlib.Core.Path.{◌≡◌}
use Prim.Native.Nat.{ℕ, ◌-◌, ◌≤◌, ◌<◌}
use lib.ListN.{length, get_or}
use Rattle.pair.specs.Party.{party_of}
use Rattle.pair_withdraw.specs.Closed.{owner_left}
use Rattle.pair_withdraw.proofs.owners.shut.Given as goal

abbrev pub invariant-loop-c : goal.invariant-loop-c
invariant-loop-c l =
    (length l.own ≡ length l.initial.own)
    × ((k : ℕ) → k < l.c → get_or l.own k 0 ≡ owner_left (party_of l.guest) (get_or l.see k 0) (get_or l.initial.own k 0))
    × ((k : ℕ) → l.c ≤ k → get_or l.own k 0 ≡ get_or l.initial.own k 0)
