-- `broadcast::broadcast`: one law for each way out.
use mathlib.Core.Bool.{not}
use mathlib.Core.Path.{ap}
use Rattle.std.proofs.lemmas.Result.{err_from_is_err_and}
use Rattle.routes.proofs.Inputs.{input-records}
use Rattle.broadcast.proofs.BroadcastReturns.{says-no-version, says-one, says-refused}
use Rattle.broadcast.proofs.broadcast.Goals as goal

pub returns-then-not-version_ok : goal.returns-then-not-version_ok
returns-then-not-version_ok c = rw c.into.ensures (says-no-version _ _ _ _ c.version_ok.ensures (ap not c.if-not-version_ok.true))

pub returns-in_err-n : goal.returns-in_err-n
returns-in_err-n c =
    let p = err_from_is_err_and c.from_residual.result c.from_residual.ensures.1 in
    rw (p.1, p.2) (says-refused c.args.version c.args.input.now _ _ c.version_ok.ensures (ap not c.if-not-version_ok.false) _ c.in_err-n.ensures)

pub is_broadcast-requires : goal.is_broadcast-requires
is_broadcast-requires c = input-records _ _ c.in_ok-n.ensures

pub returns : goal.returns
returns c =
    says-one _ _ _ _ c.version_ok.ensures (ap not c.if-not-version_ok.false) _ c.in_ok-n.ensures _ c.is_broadcast.ensures
