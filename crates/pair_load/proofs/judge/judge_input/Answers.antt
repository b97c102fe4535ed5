-- `pair_load::judge::judge_input` has a law for each way.
use Rattle.std.specs.Prelude.{refl}
use Rattle.std.proofs.lemmas.Result.{err_from_is_err_and}
use Rattle.refusals.proofs.Numbers.{number-above_0}
use Rattle.routes.specs.Said.{said_by}
use Rattle.pair_load.proofs.Judges.{says-bad, weighs, says-full, says-done}
use Rattle.pair_load.proofs.judge.judge_input.Goals as goal

pub returns-in_err-n : goal.returns-in_err-n
unfolding said_by
returns-in_err-n c =
    let p = err_from_is_err_and c.from_residual.result c.from_residual.ensures.1 in
    rw (p.1, p.2) (says-bad _ _ _ c.in_err-n.ensures)

pub weigh-requires : goal.weigh-requires
weigh-requires c = weighs _ _ _ c.requires c.in_ok-n.ensures

pub returns-in_err-weigh : goal.returns-in_err-weigh
unfolding said_by
returns-in_err-weigh c =
    let p = err_from_is_err_and c.from_residual-in_err-weigh.result c.from_residual-in_err-weigh.ensures.1 in
    rw (p.1, p.2) (says-full _ _ _ c.in_ok-n.ensures _ c.in_err-weigh.ensures (number-above_0 _))

pub returns : goal.returns
unfolding said_by
returns c = says-done _ _ _ c.in_ok-n.ensures _ c.in_ok-weigh.ensures refl
