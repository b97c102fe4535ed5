-- `runs::run::run_check`: each way out has its law.
use mathlib.Core.Bool.{not}
use mathlib.Core.Path.{ap}
use Rattle.std.proofs.lemmas.Result.{err_from_is_err_and}
use Rattle.routes.proofs.Inputs.{input-records}
use Rattle.runs.proofs.Runs.{says-no-prefix, its-prefix, says-run, says-refused, run-order}
use Rattle.runs.proofs.run.run_check.Goals as goal

pub returns-in_err-n : goal.returns-in_err-n
returns-in_err-n c =
    let p = err_from_is_err_and c.from_residual.result c.from_residual.ensures.1 in
    rw (p.1, p.2) (says-refused c.args.list.now _ _ _ c.in_err-n.ensures)

pub returns-then-not-prefix_ok : goal.returns-then-not-prefix_ok
returns-then-not-prefix_ok c =
    rw c.into.ensures (says-no-prefix _ _ _ _ c.in_ok-n.ensures _ c.prefix_ok.ensures (ap not c.if-not-prefix_ok.true))

pub place-start-requires : goal.place-start-requires
place-start-requires c = (input-records _ _ c.in_ok-n.ensures).records

pub past_key-requires : goal.past_key-requires
past_key-requires c =
    (its-prefix c.args.list.now c.args.addr _ _ c.in_ok-n.ensures _ c.prefix_ok.ensures (ap not c.if-not-prefix_ok.false)).len_ok

pub place-end-requires : goal.place-end-requires
place-end-requires c = (input-records _ _ c.in_ok-n.ensures).records

pub overflow_sub-result : goal.overflow_sub-result
overflow_sub-result c =
    let l =
    (its-prefix c.args.list.now c.args.addr c.args.len _ c.in_ok-n.ensures _ c.prefix_ok.ensures (ap not c.if-not-prefix_ok.false)).len_ok in
    rw (c.place-start.ensures.0, c.key_of.ensures.0, c.place-end.ensures.0, c.past_key.ensures) (run-order _ _ _ _ l)

pub returns : goal.returns
returns c =
    says-run _ _ _ _ c.in_ok-n.ensures _ c.prefix_ok.ensures _ _ _ _ (ap not c.if-not-prefix_ok.false) c.place-start.ensures.0
    c.key_of.ensures.0 c.place-end.ensures.0 c.past_key.ensures
