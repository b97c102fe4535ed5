-- One law for each way out.
use Rattle.std.proofs.lemmas.Result.{err_from_is_err_and}
use Rattle.basic.proofs.Checks.{good-told}
use Rattle.basic_build.proofs.BuildReturns.{built-good, built-refused}
use Rattle.basic_build.proofs.build.Goals as goal

pub returns-in_err-n : goal.returns-in_err-n
returns-in_err-n c =
    let p = err_from_is_err_and c.from_residual.result c.from_residual.ensures.1 in
    rw (p.1, p.2) (built-refused c.args.input.now _ _ _ c.in_err-n.ensures)

pub fill_maps-requires : goal.fill_maps-requires
fill_maps-requires c = good-told _ _ _ _ c.in_ok-n.ensures

pub returns : goal.returns
returns c = built-good _ _ _ _ c.in_ok-n.ensures _ _ c.fill_maps.ensures
