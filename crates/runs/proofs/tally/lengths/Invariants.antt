-- `runs::tally::lengths`: The invariant: the counts are those of the records passed.
use Rattle.std.specs.Prelude.{◌≡◌}
use Rattle.runs.specs.Tally.{lengths_of}
use Rattle.runs.proofs.tally.lengths.Given as goal

abbrev pub invariant-loop-k : goal.invariant-loop-k
invariant-loop-k l = l.counts ≡ lengths_of l.list l.k
