-- One law for each way out.
use Rattle.std.proofs.lemmas.Result.{err_from_is_err_and}
use Rattle.basic.proofs.Checks.{good-told}
use Rattle.basic_lookup.proofs.LookupReturns.{look-good, look-refused}
use Rattle.basic_lookup.proofs.lookup.Goals as goal

pub returns-in_err-n : goal.returns-in_err-n
returns-in_err-n c =
    let p = err_from_is_err_and c.from_residual.result c.from_residual.ensures.1 in
    rw (p.1, p.2) (look-refused c.args.input.now _ _ _ _ c.in_err-n.ensures)

pub walk-requires : goal.walk-requires
walk-requires c = good-told _ _ _ _ c.in_ok-n.ensures

pub returns : goal.returns
returns c = look-good _ _ _ _ _ c.in_ok-n.ensures _ _ c.walk.ensures c.found_of.ensures
