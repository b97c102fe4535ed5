use Rattle.std.specs.Prelude.{refl}
use borrow.Author.Count.{below_more}
use Rattle.routes.proofs.Inputs.{fine-at, ragged, stopped, too_many, good}
use Rattle.input_check.proofs.input.check_input.Goals as goal

pub returns-then-bytes-ne0 : goal.returns-then-bytes-ne0
returns-then-bytes-ne0 c = rw c.at.ensures (ragged _ c.if-bytes-ne0.true)

pub returns-in-Err : goal.returns-in-Err
returns-in-Err c =
    rw c.at-in-Err.ensures (stopped _ c.if-bytes-ne0.false _ c.loop-k.invariant _ c.loop-k-test.true c.in-Err.ensures)

pub loop-k-preserved : goal.loop-k-preserved
loop-k-preserved c = below_more _ _ c.loop-k.invariant (fine-at _ _ 0 c.in_default.ensures refl)

pub returns-then-n-gt4096 : goal.returns-then-n-gt4096
returns-then-n-gt4096 c =
    rw c.into.ensures (too_many _ c.if-bytes-ne0.false _ c.loop-k.invariant c.loop-k.auto.k-end c.loop-k-test.false c.if-n-gt4096.true)

pub returns : goal.returns
returns c = good _ c.if-bytes-ne0.false _ c.loop-k.invariant c.loop-k.auto.k-end c.loop-k-test.false c.if-n-gt4096.false
