-- `repair_leaves::off_first`. The invariant: `m` of the cells of the first `b` blocks are planned as leaves and hold something else.
use mathlib.Core.Path.{◌≡◌}
use Prim.Native.Nat.{◌-◌, ◌*◌, ◌/◌, ◌≤◌}
use lib.ListN.{length}
use Rattle.bits.specs.Count.{count}
use Rattle.chain.specs.Words.{routes_of_words}
use Rattle.sail.specs.Level.{always, itself, entry}
use Rattle.repair_leaves.specs.Leaves.{off_at}
use Rattle.repair_leaves.proofs.off_first.Given as goal

abbrev pub invariant-loop-b : goal.invariant-loop-b
invariant-loop-b l =
    (length l.want ≡ 1024) × (l.m ≤ l.b * 1024) × (l.m ≡ count (off_at (routes_of_words l.ws) l.p always itself (entry l.first)) (l.b * 1024))
