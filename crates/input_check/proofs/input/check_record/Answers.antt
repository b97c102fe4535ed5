-- `input_check::input::check_record`: what is wrong with the record by itself comes first, then its place.
use Rattle.std.specs.Prelude.{refl}
use Rattle.std.proofs.lemmas.Result.{err_from_is_err_and}
use Rattle.refusals.proofs.Numbers.{number-above_0}
use Rattle.routes.proofs.Faults.{by_itself, the-first, rising, not-rising}
use Rattle.input_check.proofs.input.check_record.Goals as goal

pub returns-in_err-check_route : goal.returns-in_err-check_route
returns-in_err-check_route c =
    let p = err_from_is_err_and c.from_residual.result c.from_residual.ensures.1 in
    rw (p.1, p.2) (by_itself _ _ _ c.read_record.ensures _ c.in_err-check_route.ensures (number-above_0 _))

pub returns-then-k-eq0 : goal.returns-then-k-eq0
returns-then-k-eq0 c = the-first _ _ _ c.read_record.ensures 0 c.in_ok-check_route.ensures refl c.if-k-eq0.true

pub returns-then-key_at : goal.returns-then-key_at
returns-then-key_at c =
    rising _ _ _ c.read_record.ensures 0 c.in_ok-check_route.ensures _ _ c.key_at.ensures.0 c.key_at-2.ensures.0 refl c.if-k-eq0.false c.if-key_at.true

pub returns : goal.returns
returns c =
    not-rising _ _ _ c.read_record.ensures 0 c.in_ok-check_route.ensures _ _ c.key_at.ensures.0 c.key_at-2.ensures.0 refl c.if-k-eq0.false
    c.if-key_at.false
