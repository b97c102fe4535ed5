-- `plan_test::under::right_under`. Whether a part is as the routes ask for these cells; `want` is room for the plan, and cell j of the part has the owner
-- number o + j.
use Rattle.plan_test.proofs.Tested.{run-judges, run-right}
use Rattle.plan_test.proofs.under.right_under.Goals as goal

pub as_planned-requires : goal.as_planned-requires
as_planned-requires c = search run-judges

pub returns : goal.returns
returns c = search run-right
