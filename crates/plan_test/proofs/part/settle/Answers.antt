use native.Mathlib.Omega.{arith}
use Rattle.plan_test.proofs.Settles.{settled-length, run_none, run-more, run-all}
use Rattle.plan_test.proofs.part.settle.Goals as goal

pub loop-w-init : goal.loop-w-init
loop-w-init c = run_none c.args.run.now _ _ _ _ _ _

pub settle_one-ok-requires : goal.settle_one-ok-requires
settle_one-ok-requires c =
    let e = settled-length c.loop-w.invariant in
    record { deep = c.requires.deep; same = omega arith; few = omega arith }

pub loop-w-preserved : goal.loop-w-preserved
loop-w-preserved c = run-more _ _ _ _ _ _ _ _ _ _ _ _ c.loop-w-test.true c.loop-w.invariant c.settle_one-ok.ensures

pub returns : goal.returns
returns c = run-all _ _ _ _ _ _ _ _ _ _ c.loop-w-test.false c.loop-w.invariant
