-- One law for each way out.
use mathlib.Core.Bool.{not}
use mathlib.Core.Path.{ap}
use Rattle.std.proofs.lemmas.Result.{err_from_is_err_and}
use Rattle.basic.proofs.Checks.{ready-good, ready-sizes, ready-refused}
use Rattle.basic.proofs.check.check.Goals as goal

pub returns-in_err-n : goal.returns-in_err-n
returns-in_err-n c =
    let p = err_from_is_err_and c.from_residual.result c.from_residual.ensures.1 in
    rw (p.1, p.2) (ready-refused c.args.input.now _ _ _ c.in_err-n.ensures)

pub returns-then-not-sizes : goal.returns-then-not-sizes
returns-then-not-sizes c = rw c.into.ensures (ready-sizes _ _ _ _ c.in_ok-n.ensures _ c.sizes.ensures (ap not c.if-not-sizes.true))

pub returns : goal.returns
returns c = ready-good _ _ _ _ c.in_ok-n.ensures _ c.sizes.ensures (ap not c.if-not-sizes.false)
