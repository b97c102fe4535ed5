-- `pair_lookup::lookup`. The sizes, and then what the word of the party's walk says.
use Rattle.std.specs.Prelude.{refl}
use Rattle.std.proofs.lemmas.Result.{err_from_is_err_and}
use Rattle.refusals.proofs.Numbers.{number-above_0}
use Rattle.routes.specs.Said.{said_plainly}
use Rattle.sail.proofs.Found.{found-answer}
use Rattle.pair_lookup.proofs.Looks.{answer-not, pair-fives, second-celled, first-celled, look-second, look-first}
use Rattle.pair_lookup.proofs.lookup.Goals as goal

pub returns-in_err-check_sizes : goal.returns-in_err-check_sizes
unfolding said_plainly
returns-in_err-check_sizes c =
    let p = err_from_is_err_and c.from_residual.result c.from_residual.ensures.1 in
    rw (p.1, p.2) (answer-not _ _ _ _ c.in_err-check_sizes.ensures _ (number-above_0 _))

pub walk-requires : goal.walk-requires
walk-requires c = second-celled _ _ _ c.in_ok-check_sizes.ensures refl

pub returns-then-guest : goal.returns-then-guest
returns-then-guest c =
    let word = look-second _ _ _ _ c.in_ok-check_sizes.ensures refl _ _ c.if-guest.true c.walk.ensures in
    rw c.ok_or.ensures.value (found-answer _ _ (pair-fives _ _ _ _ c.in_ok-check_sizes.ensures refl _) word _ c.found_in.ensures)

pub walk-requires-2 : goal.walk-requires-2
walk-requires-2 c = first-celled _ _ _ c.in_ok-check_sizes.ensures refl

pub returns : goal.returns
returns c =
    let word = look-first _ _ _ _ c.in_ok-check_sizes.ensures refl _ _ c.if-guest.false c.walk-2.ensures in
    rw c.ok_or-2.ensures.value (found-answer _ _ (pair-fives _ _ _ _ c.in_ok-check_sizes.ensures refl _) word _ c.found_in-2.ensures)
