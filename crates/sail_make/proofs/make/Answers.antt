-- `sail_make::make`: the sizes are checked; then it is refused, or all is blank.
use Rattle.std.specs.Prelude.{refl}
use Rattle.std.proofs.lemmas.Result.{err_from_is_err_and}
use Rattle.refusals.proofs.Numbers.{number-above_0}
use Rattle.routes.specs.Said.{said_plainly}
use Rattle.sail_make.proofs.Makes.{make-refuses, make-makes}
use Rattle.sail_make.proofs.make.Goals as goal

pub returns-in_err-check_sizes : goal.returns-in_err-check_sizes
unfolding said_plainly
returns-in_err-check_sizes c =
    let p = err_from_is_err_and c.from_residual.result c.from_residual.ensures.1 in
    rw (p.1, p.2) (make-refuses _ _ _ c.in_err-check_sizes.ensures (number-above_0 _))

pub returns : goal.returns
unfolding said_plainly
returns c = make-makes _ _ _ c.in_ok-check_sizes.ensures refl _ c.blank.ensures
