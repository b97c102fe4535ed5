-- `packing_fields::updated`: each case of the answer by its values.
use mathlib.Core.Path.{ap}
use native.Mathlib.Omega.{arith}
use Rattle.sail_update.specs.Answers.{means_update}
use Rattle.sail_update.specs.declared.answers.Update.{Update}
use Rattle.packing_fields.specs.Answers.{pack_update}
use Rattle.packing_fields.proofs.updated.Goals as goal

pub returns-in-Done : goal.returns-in-Done
unfolding means_update pack_update
returns-in-Done c = omega (arith, ap (λ (x : Update). pack_update c.args.count (means_update x)) c.in-Done.is, c.dealt.ensures.0)

pub returns-in-Stopped : goal.returns-in-Stopped
unfolding means_update pack_update
returns-in-Stopped c =
    omega (arith, ap (λ (x : Update). pack_update c.args.count (means_update x)) c.in-Stopped.is, c.dealt-in-Stopped.ensures.0)

pub returns-in-Refused : goal.returns-in-Refused
unfolding means_update pack_update
returns-in-Refused c = omega (arith, ap (λ (x : Update). pack_update c.args.count (means_update x)) c.in-Refused.is)
