-- `fields::message::check_message`: each way out has its law.
use mathlib.Core.Bool.{not}
use mathlib.Core.Path.{ap, refl}
use Rattle.std.proofs.lemmas.Result.{err_from_is_err_and}
use Rattle.refusals.proofs.Numbers.{number-above_0}
use Rattle.fields.proofs.Messages.{stop-gone, stop-come, stop-hop, goes_on}
use Rattle.fields.proofs.message.check_message.Goals as goal

pub returns-in_err-check_field : goal.returns-in_err-check_field
returns-in_err-check_field c =
    let p = err_from_is_err_and c.from_residual.result c.from_residual.ensures.1 in
    rw (p.1, p.2) (stop-gone _ _ _ _ c.in_err-check_field.ensures (number-above_0 _))

pub returns-in_err-check_field-2 : goal.returns-in_err-check_field-2
returns-in_err-check_field-2 c =
    let p = err_from_is_err_and c.from_residual-in_err-check_field-2.result c.from_residual-in_err-check_field-2.ensures.1 in
    rw (p.1, p.2) (stop-come _ _ _ 0 c.in_ok-check_field.ensures refl _ c.in_err-check_field-2.ensures (number-above_0 _))

pub returns-then-not-hop_ok : goal.returns-then-not-hop_ok
returns-then-not-hop_ok c =
    stop-hop _ _ _ 0 c.in_ok-check_field.ensures refl 0 c.in_ok-check_field-2.ensures refl _ c.hop_ok.ensures (ap not c.if-not-hop_ok.true)

pub returns : goal.returns
returns c =
    goes_on _ _ _ 0 c.in_ok-check_field.ensures refl 0 c.in_ok-check_field-2.ensures refl _ c.hop_ok.ensures (ap not c.if-not-hop_ok.false)
