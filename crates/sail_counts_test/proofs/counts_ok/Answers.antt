-- `sail_counts_test::counts_ok`. Counts that fail where chunks hang decide; else every second cell that names no chunk is looked at.
use mathlib.Core.Bool.{not}
use mathlib.Core.Path.{ap}
use Rattle.sail_counts_test.proofs.Exact.{counts-fail, counts-told}
use Rattle.sail_counts_test.proofs.counts_ok.Goals as goal

pub deep_counts_ok-requires : goal.deep_counts_ok-requires
deep_counts_ok-requires c = c.requires.countable

pub returns-then-not-deep_counts_ok : goal.returns-then-not-deep_counts_ok
returns-then-not-deep_counts_ok c =
    counts-fail _ _ _ _ _ _ _ _ c.requires.countable c.requires.clear _ c.deep_counts_ok.ensures (ap not c.if-not-deep_counts_ok.true)

pub idle_ok-requires : goal.idle_ok-requires
idle_ok-requires c = c.requires.countable.counts2

pub returns : goal.returns
returns c =
    counts-told _ _ _ _ _ _ _ _ c.requires.countable c.requires.clear _ c.deep_counts_ok.ensures (ap not c.if-not-deep_counts_ok.false) _ c.idle_ok.ensures
