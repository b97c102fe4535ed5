-- The invariant: the words before `k` are done.
use Rattle.std.specs.Prelude.{◌≡◌, ℕ, ◌<◌, length, get_or}
use Rattle.basic.specs.Calls.{basic_said, hop_word}
use Rattle.basic_many.proofs.each.Given as goal

abbrev pub invariant-loop-k : goal.invariant-loop-k
invariant-loop-k l =
    (length l.out ≡ l.m) × ((j : ℕ) → j < l.k → get_or l.out j 0 ≡ hop_word (basic_said l.input l.bits l.cells (get_or l.addrs j 0)))
