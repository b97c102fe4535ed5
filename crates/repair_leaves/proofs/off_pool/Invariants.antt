-- `repair_leaves::off_pool`. The invariant: `m` of the cells of the chunks before `c` are neither as planned nor to name a chunk.
use mathlib.Core.Path.{◌≡◌}
use Prim.Native.Nat.{◌-◌, ◌*◌, ◌^◌, ◌≤◌}
use lib.ListN.{length}
use Rattle.bits.specs.Count.{count}
use Rattle.chain.specs.Words.{routes_of_words}
use Rattle.sail.specs.Level.{live_in, part_of, entry}
use Rattle.sail_paint.specs.Paint.{stands_for}
use Rattle.repair_leaves.specs.Leaves.{off_at}
use Rattle.repair_leaves.proofs.off_pool.Given as goal

abbrev pub invariant-loop-c : goal.invariant-loop-c
invariant-loop-c l =
    (length l.want ≡ 1024) × (l.m ≤ l.c * 2 ^ (l.p - l.l))
    × (l.m ≡ count (off_at (routes_of_words l.ws) l.p (live_in (entry l.own) (l.p - l.l)) (part_of (entry l.own) (l.p - l.l) (stands_for l.e l.up)) (entry l.cells)) (l.c * 2 ^ (l.p - l.l)))
