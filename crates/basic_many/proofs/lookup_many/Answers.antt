-- One law for each way out.
use Rattle.std.proofs.lemmas.Result.{err_from_is_err_and}
use Rattle.basic.proofs.Checks.{good-told}
use Rattle.basic_many.proofs.ManyReturns.{many-good, many-refused}
use Rattle.basic_many.proofs.lookup_many.Goals as goal

pub returns-in_err-n : goal.returns-in_err-n
returns-in_err-n c =
    let p = err_from_is_err_and c.from_residual.result c.from_residual.ensures.1 in
    rw (p.1, p.2) (many-refused c.args.input.now _ _ _ _ _ c.in_err-n.ensures)

pub each-requires : goal.each-requires
each-requires c = good-told _ _ _ _ c.in_ok-n.ensures

pub returns : goal.returns
returns c = many-good _ _ _ _ _ _ c.in_ok-n.ensures _ c.each.ensures
