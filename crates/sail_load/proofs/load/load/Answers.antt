-- `sail_load::load::load`. Where the judge refuses, nothing is written; where it accepts, all that is lent is written anew.
use native.Mathlib.Omega.{arith}
use Rattle.std.proofs.lemmas.Result.{err_from_is_err_and}
use Rattle.routes.specs.Said.{said_by}
use Rattle.sail_load.proofs.Loads.{load-refuses, renewable, few, load-loads}
use Rattle.sail_load.proofs.load.load.Goals as goal

pub returns-in_err-judge : goal.returns-in_err-judge
unfolding said_by
returns-in_err-judge c =
    let p = err_from_is_err_and c.from_residual.result c.from_residual.ensures.1 in
    rw (p.1, p.2) (load-refuses _ _ _ _ c.in_err-judge.ensures)

pub write_table-requires : goal.write_table-requires
unfolding said_by
write_table-requires c = renewable _ _ _ c.in_ok-judge.ensures

pub overflow_cast-count : goal.overflow_cast-count
unfolding said_by
overflow_cast-count c = record { fits = omega (arith, few _ _ _ c.in_ok-judge.ensures) }

pub returns : goal.returns
unfolding said_by
returns c = load-loads _ _ _ c.in_ok-judge.ensures _ c.write_table.ensures
