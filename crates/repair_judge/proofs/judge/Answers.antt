-- `repair_judge::judge`. The fault of the sizes comes first; else the list is judged.
use Rattle.std.specs.Prelude.{refl}
use Rattle.std.proofs.lemmas.Result.{err_from_is_err_and}
use Rattle.repair_judge.proofs.Judging.{judge-sizes, list-asks, judge-listed}
use Rattle.repair_judge.proofs.judge.Goals as goal

pub returns-in_err-check_sizes : goal.returns-in_err-check_sizes
returns-in_err-check_sizes c =
    let p = err_from_is_err_and c.from_residual.result c.from_residual.ensures.1 in
    rw (p.1, p.2) (judge-sizes _ _ _ c.in_err-check_sizes.ensures _ _ refl)

pub judge_list-requires : goal.judge_list-requires
judge_list-requires c = list-asks _ _ _ (c.in_ok-check_sizes.ensures.facts refl) c.requires

pub returns : goal.returns
returns c = judge-listed _ _ _ c.in_ok-check_sizes.ensures refl _ _ c.judge_list.ensures
