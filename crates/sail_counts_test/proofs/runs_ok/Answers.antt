use mathlib.Core.Bool.{not}
use mathlib.Core.Path.{ap}
use native.Mathlib.Omega.{arith}
use borrow.Author.Count.{below_none, below_more}
use Rattle.bits.proofs.Tells.{is-yes, refuted, passed}
use Rattle.sail_counts_test.proofs.CountRuns.{all_told, told-run}
use Rattle.sail_counts_test.proofs.runs_ok.Goals as goal

pub loop-k-init : goal.loop-k-init
loop-k-init c = (omega arith, below_none _)

pub returns-then-not-run_ok : goal.returns-then-not-run_ok
returns-then-not-run_ok c = refuted c.run_ok.ensures (ap not c.if-not-run_ok.true) (told-run _ _ _ _ _ _ (omega arith))

pub loop-k-preserved : goal.loop-k-preserved
loop-k-preserved c = (omega arith, below_more _ _ c.loop-k.invariant.1 (passed c.run_ok.ensures (ap not c.if-not-run_ok.false)))

pub returns : goal.returns
returns c = is-yes (all_told _ _ _ _ _ (λ k h. c.loop-k.invariant.1 k (omega arith)))
