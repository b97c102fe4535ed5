-- `pair_report::report`. The sizes, and then the rest in room of its own.
use borrow.Author.Rules.{rules}
use mathlib.Core.Path.{refl, sym}
use native.Mathlib.Omega.{arith}
use lib.Seq.{length-take-le}
use Rattle.std.proofs.lemmas.Result.{err_from_is_err_and}
use Rattle.refusals.proofs.Numbers.{number-above_0}
use Rattle.routes.specs.Said.{said_plainly}
use Rattle.pair_report.proofs.Reports.{both-sized, few-chunks, report-off, report-on}
use Rattle.pair_report.proofs.report.Goals as goal

pub returns-in_err-check_sizes : goal.returns-in_err-check_sizes
unfolding said_plainly
returns-in_err-check_sizes c =
    let p = err_from_is_err_and c.from_residual.result c.from_residual.ensures.1 in
    rw (p.1, p.2) (report-off _ _ _ c.in_err-check_sizes.ensures _ (number-above_0 _))

pub slice_bounds-see2-end : goal.slice_bounds-see2-end
slice_bounds-see2-end c = omega (arith, (few-chunks _ _ (both-sized _ _ _ c.in_ok-check_sizes.ensures refl)).0)

pub slice_bounds-report_sized-end : goal.slice_bounds-report_sized-end
slice_bounds-report_sized-end c =
    let z = both-sized _ _ _ c.in_ok-check_sizes.ensures refl in
    sym (length-take-le _ _ (omega (arith, (few-chunks _ _ z).0)))

pub slice_bounds-see3-end : goal.slice_bounds-see3-end
slice_bounds-see3-end c = omega (arith, (few-chunks _ _ (both-sized _ _ _ c.in_ok-check_sizes.ensures refl)).1)

pub slice_bounds-report_sized-end-2 : goal.slice_bounds-report_sized-end-2
slice_bounds-report_sized-end-2 c =
    let z = both-sized _ _ _ c.in_ok-check_sizes.ensures refl in
    sym (length-take-le _ _ (omega (arith, (few-chunks _ _ z).1)))

pub report_sized-requires : goal.report_sized-requires
report_sized-requires c =
    let z = both-sized _ _ _ c.in_ok-check_sizes.ensures refl in
    record {
      both_sized = z;
      sight = record {
        room2 = length-take-le _ _ (omega (arith, (few-chunks _ _ z).0));
        room3 = length-take-le _ _ (omega (arith, (few-chunks _ _ z).1));
      };
      scratch = record { words = search rules; chain = search rules };
    }

pub returns : goal.returns
returns c = report-on _ _ _ c.in_ok-check_sizes.ensures _ refl _ c.report_sized.ensures
