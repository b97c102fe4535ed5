-- `plan_test::part::settle_one`. The cell that the route of a word lies within, where it is one of the part: its plan becomes what it holds.
use Rattle.plan_test.proofs.Settles.{one-short, one_below, one-above, one_in}
use Rattle.plan_test.proofs.part.settle_one.Goals as goal

pub returns-then-len-p : goal.returns-then-len-p
returns-then-len-p c = one-short _ _ _ _ _ _ _ c.if-len-p.true

pub returns-then-cell-base : goal.returns-then-cell-base
returns-then-cell-base c = one_below _ _ _ _ _ _ _ c.if-len-p.false c.if-cell-base.true

pub returns-then-n-j : goal.returns-then-n-j
returns-then-n-j c = one-above _ _ _ _ _ _ _ c.if-len-p.false c.if-cell-base.false c.if-n-j.true

pub returns : goal.returns
returns c = search one_in
