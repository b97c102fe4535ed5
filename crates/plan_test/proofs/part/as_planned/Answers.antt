-- `plan_test::part::as_planned`. Whether a part is as the routes of a run ask for the cells of level p from base on, where the hop h is inherited; `want`
-- is room for the plan.
use Rattle.plan_test.proofs.Settles.{judged-no, judged-yes}
use Rattle.plan_test.proofs.part.as_planned.Goals as goal

pub returns-then-not-settle : goal.returns-then-not-settle
returns-then-not-settle c = search judged-no

pub returns : goal.returns
returns c = search judged-yes
