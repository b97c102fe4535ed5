-- `pair_load::judge::judge`. The sizes, and then the rest in room of its own.
use mathlib.Core.Path.{sym}
use native.Mathlib.Omega.{arith}
use Rattle.std.specs.Prelude.{refl}
use Rattle.std.proofs.lemmas.Result.{err_from_is_err_and}
use Rattle.refusals.proofs.Numbers.{number-above_0}
use Rattle.routes.specs.Said.{said_by}
use borrow.Author.Rules.{rules}
use lib.Seq.{length-take-le}
use Rattle.pair_load.proofs.Judges.{both-sized, few-chunks, says-sizes, says-sized}
use Rattle.pair_load.proofs.judge.judge.Goals as goal

pub returns-in_err-check_sizes : goal.returns-in_err-check_sizes
unfolding said_by
returns-in_err-check_sizes c =
    let p = err_from_is_err_and c.from_residual.result c.from_residual.ensures.1 in
    rw (p.1, p.2) (says-sizes _ _ _ _ c.in_err-check_sizes.ensures _ (number-above_0 _))

pub slice_bounds-see2-end : goal.slice_bounds-see2-end
slice_bounds-see2-end c = omega (arith, (few-chunks _ _ (both-sized _ _ _ c.in_ok-check_sizes.ensures refl)).0)

pub slice_bounds-judge_sized-end : goal.slice_bounds-judge_sized-end
slice_bounds-judge_sized-end c =
    let z = both-sized _ _ _ c.in_ok-check_sizes.ensures refl in
    sym (length-take-le _ _ (omega (arith, (few-chunks _ _ z).0)))

pub slice_bounds-see3-end : goal.slice_bounds-see3-end
slice_bounds-see3-end c = omega (arith, (few-chunks _ _ (both-sized _ _ _ c.in_ok-check_sizes.ensures refl)).1)

pub slice_bounds-judge_sized-end-2 : goal.slice_bounds-judge_sized-end-2
slice_bounds-judge_sized-end-2 c =
    let z = both-sized _ _ _ c.in_ok-check_sizes.ensures refl in
    sym (length-take-le _ _ (omega (arith, (few-chunks _ _ z).1)))

pub judge_sized-requires : goal.judge_sized-requires
judge_sized-requires c =
    let z = both-sized _ _ _ c.in_ok-check_sizes.ensures refl in
    let few = few-chunks _ _ z in
    record {
      both_sized = z;
      sight = record { room2 = length-take-le _ _ (omega (arith, few.0)); room3 = length-take-le _ _ (omega (arith, few.1)) };
      scratch = record { words = search rules; chain = search rules };
    }

pub returns : goal.returns
returns c = says-sized _ _ _ _ c.in_ok-check_sizes.ensures _ refl _ c.judge_sized.ensures
