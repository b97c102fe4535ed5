-- `sail_lookup::lookup`: the sizes come first, then what the walk's word says.
use Rattle.std.specs.Prelude.{refl}
use Rattle.std.proofs.lemmas.Result.{err_from_is_err_and}
use Rattle.refusals.proofs.Numbers.{number-above_0}
use Rattle.routes.specs.Said.{said_plainly}
use Rattle.sail.proofs.Steps.{look-on, look-not}
use Rattle.sail.proofs.Found.{found-answer, lookup-fives}
use Rattle.sail_lookup.proofs.lookup.Goals as goal

pub returns-in_err-check_sizes : goal.returns-in_err-check_sizes
unfolding said_plainly
returns-in_err-check_sizes c =
    let p = err_from_is_err_and c.from_residual.result c.from_residual.ensures.1 in
    rw (p.1, p.2) (look-not _ _ _ _ c.in_err-check_sizes.ensures (number-above_0 _))

pub returns : goal.returns
returns c =
    rw c.ok_or.ensures.value
    (found-answer _ _ (lookup-fives _ _ _ _ c.in_ok-check_sizes.ensures refl) (look-on _ _ _ _ c.in_ok-check_sizes.ensures _ refl c.walk.ensures) _
    c.found_in.ensures)
