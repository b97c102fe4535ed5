-- `sail_sound::report::report`: the sizes, then the test, then the count and the chunks in use, which are the needs of a sound table.
use Rattle.std.specs.Prelude.{refl}
use Rattle.std.proofs.lemmas.Result.{err_from_is_err_and}
use native.Mathlib.Omega.{arith}
use Rattle.refusals.proofs.Numbers.{number-above_0}
use Rattle.routes.specs.Said.{said_plainly}
use Rattle.sail_sound.proofs.Reports.{report-not, report-on}
use Rattle.sail_sound.proofs.report.report.Goals as goal

pub returns-in_err-check_table : goal.returns-in_err-check_table
unfolding said_plainly
returns-in_err-check_table c =
    let p = err_from_is_err_and c.from_residual.result c.from_residual.ensures.1 in
    rw (p.1, p.2) (report-not _ _ _ c.in_err-check_table.ensures (number-above_0 _))

pub in_use-requires : goal.in_use-requires
in_use-requires c = let s = (c.in_ok-check_table.ensures.facts refl).sized in omega (arith, s.few2)

pub in_use-requires-2 : goal.in_use-requires-2
in_use-requires-2 c = let s = (c.in_ok-check_table.ensures.facts refl).sized in omega (arith, s.few3)

pub returns : goal.returns
unfolding said_plainly
returns c = report-on _ _ _ _ _ c.in_ok-check_table.ensures refl c.in_use.ensures c.in_use-2.ensures
