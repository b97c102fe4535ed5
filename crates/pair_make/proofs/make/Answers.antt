-- `pair_make::make`: the sizes are checked, then the limits; then it is refused, or all is blank.
use mathlib.Core.Bool.{not}
use mathlib.Core.Path.{ap}
use Rattle.std.specs.Prelude.{refl}
use Rattle.std.proofs.lemmas.Result.{err_from_is_err_and}
use Rattle.refusals.proofs.Numbers.{number-above_0}
use Rattle.routes.specs.Said.{said_plainly}
use Rattle.pair_make.proofs.PairMakes.{make-off, make-over, make-on}
use Rattle.pair_make.proofs.make.Goals as goal

pub returns-in_err-check_sizes : goal.returns-in_err-check_sizes
unfolding said_plainly
returns-in_err-check_sizes c =
    let p = err_from_is_err_and c.from_residual.result c.from_residual.ensures.1 in
    rw (p.1, p.2) (make-off _ _ _ c.in_err-check_sizes.ensures (number-above_0 _))

pub returns-then-not-limits_ok : goal.returns-then-not-limits_ok
unfolding said_plainly
returns-then-not-limits_ok c = make-over _ _ _ c.in_ok-check_sizes.ensures refl _ c.limits_ok.ensures (ap not c.if-not-limits_ok.true)

pub returns : goal.returns
unfolding said_plainly
returns c = make-on _ _ _ c.in_ok-check_sizes.ensures refl _ c.limits_ok.ensures (ap not c.if-not-limits_ok.false) _ c.blank.ensures
