-- `pair_sizes::check_sizes`. What is wrong with the first party's side decides, and else what the second's side has.
use Rattle.std.specs.Prelude.{refl}
use Rattle.std.proofs.lemmas.Result.{err_from_is_err_and}
use Rattle.refusals.proofs.Numbers.{number-above_0}
use Rattle.pair_sizes.proofs.Sides.{first_off, second-told}
use Rattle.pair_sizes.proofs.check_sizes.Goals as goal

pub returns-in_err-check_sizes : goal.returns-in_err-check_sizes
returns-in_err-check_sizes c =
    let p = err_from_is_err_and c.from_residual.result c.from_residual.ensures.1 in
    rw (p.1, p.2) (first_off _ _ _ c.in_err-check_sizes.ensures (number-above_0 _))

pub returns : goal.returns
returns c = second-told _ _ _ c.in_ok-check_sizes.ensures refl _ c.check_sizes-2.ensures
