-- `plan::under::plan_under`. The cells of level p from base on, as many as `out` has, which lie in cell i of level l.
use Rattle.plan.proofs.Unders.{run-plans, run-planned}
use Rattle.plan.proofs.under.plan_under.Goals as goal

pub plan_words-requires : goal.plan_words-requires
plan_words-requires c = search run-plans

pub returns : goal.returns
returns c = search run-planned
