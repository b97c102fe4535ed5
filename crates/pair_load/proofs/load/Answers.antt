-- `pair_load::load`. Where the judge refuses, nothing is written; where it accepts, the party's side is written, and the other's three arrays are not.
use native.Mathlib.Omega.{arith}
use Rattle.std.proofs.lemmas.Result.{err_from_is_err_and}
use Rattle.routes.specs.Said.{said_by}
use Rattle.pair.specs.Party.{one, two}
use Rattle.pair_state.proofs.Guests.{guest-two, guest-one}
use Rattle.pair_load.proofs.Ends.{load-refuses, few, ready-as, loads-as}
use Rattle.pair_load.proofs.load.Goals as goal

pub returns-in_err-judge : goal.returns-in_err-judge
unfolding said_by
returns-in_err-judge c =
    let p = err_from_is_err_and c.from_residual.result c.from_residual.ensures.1 in
    rw (p.1, p.2) (load-refuses _ _ _ _ _ c.in_err-judge.ensures)

pub overflow_cast-input : goal.overflow_cast-input
unfolding said_by
overflow_cast-input c =
    record { fits = omega (arith, few _ _ _ _ c.in_ok-judge.ensures) }

pub load_side-requires : goal.load_side-requires
unfolding said_by
load_side-requires c =
    ready-as _ _ _ _ c.in_ok-judge.ensures two (guest-two _ c.if-guest.true)

pub returns-then-guest : goal.returns-then-guest
unfolding said_by
returns-then-guest c =
    loads-as _ _ _ _ c.in_ok-judge.ensures two (guest-two _ c.if-guest.true)
    _ c.load_side.ensures _ c.with_count-state.ensures

pub load_side-requires-2 : goal.load_side-requires-2
unfolding said_by
load_side-requires-2 c =
    ready-as _ _ _ _ c.in_ok-judge.ensures one (guest-one _ c.if-guest.false)

pub returns : goal.returns
unfolding said_by
returns c =
    loads-as _ _ _ _ c.in_ok-judge.ensures one (guest-one _ c.if-guest.false)
    _ c.load_side-2.ensures _ c.with_count-state.ensures
