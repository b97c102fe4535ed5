-- `sail_counts::tick::count_all`: The invariant: the counts are those of the first k routes, and what others count is what it was.
use Rattle.sail_counts.proofs.Loads.{Come}
use Rattle.sail_counts.proofs.tick.count_all.Given as goal

abbrev pub invariant-loop-k : goal.invariant-loop-k
invariant-loop-k l = Come l.g l.list l.k l.own2 l.initial.long2 l.long1 l.long2
