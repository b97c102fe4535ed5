-- `sail_counts_test::goes_on`. Whether the word before word k, too, is longer than p and has the bits of cell i.
use Rattle.sail_counts_test.proofs.CountRuns.{goes_first, goes-short, goes-told}
use Rattle.sail_counts_test.proofs.goes_on.Goals as goal

pub returns-then-k-eq0 : goal.returns-then-k-eq0
returns-then-k-eq0 c = goes_first _ _ _ _ c.if-k-eq0.true

pub returns-then-w-p : goal.returns-then-w-p
returns-then-w-p c = goes-short _ _ _ _ c.if-w-p.true

pub returns : goal.returns
returns c = goes-told _ _ _ _ c.if-k-eq0.false c.if-w-p.false
