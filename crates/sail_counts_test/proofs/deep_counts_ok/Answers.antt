-- `sail_counts_test::deep_counts_ok`. First cells that name no chunk count 0, and the runs of words tell the others.
use mathlib.Core.Bool.{not}
use mathlib.Core.Path.{ap}
use Rattle.sail_counts_test.proofs.Exact.{led1, led2, first_stray, first-wrong, deep-told}
use Rattle.sail_counts_test.proofs.deep_counts_ok.Goals as goal

pub returns-then-not-idle_ok : goal.returns-then-not-idle_ok
returns-then-not-idle_ok c = first_stray _ _ _ _ _ _ _ _ c.requires _ c.idle_ok.ensures (ap not c.if-not-idle_ok.true)

pub runs_ok-requires : goal.runs_ok-requires
runs_ok-requires c = led1 _ _ _ _ _ _ _ _ c.requires

pub returns-then-not-runs_ok : goal.returns-then-not-runs_ok
returns-then-not-runs_ok c = first-wrong _ _ _ _ _ _ _ _ c.requires _ c.idle_ok.ensures _ c.runs_ok.ensures (ap not c.if-not-runs_ok.true)

pub runs_ok-requires-2 : goal.runs_ok-requires-2
runs_ok-requires-2 c = led2 _ _ _ _ _ _ _ _ c.requires

pub returns : goal.returns
returns c =
    deep-told _ _ _ _ _ _ _ _ c.requires _ c.idle_ok.ensures _ c.runs_ok.ensures (ap not c.if-not-idle_ok.false) (ap not c.if-not-runs_ok.false) _
    c.runs_ok-2.ensures
