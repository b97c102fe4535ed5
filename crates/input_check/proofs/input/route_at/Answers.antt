-- `input_check::input::route_at`: each way out has its law.
use Rattle.std.specs.Prelude.{refl}
use native.Mathlib.Omega.{arith}
use Rattle.std.proofs.lemmas.Result.{err_from_is_err_and}
use Rattle.routes.proofs.Meaning.{input-good}
use Rattle.routes.proofs.Saids.{said-ok, said-err}
use Rattle.routes.proofs.Inputs.{got-one, got-nothing, got-refused}
use Rattle.input_check.proofs.input.route_at.Goals as goal

pub read_record-requires : goal.read_record-requires
read_record-requires c = omega (arith, (input-good _ _ (said-ok _ _ _ c.in_ok-n.ensures _ refl)).0)

pub returns-in_err-n : goal.returns-in_err-n
returns-in_err-n c =
    let p = err_from_is_err_and c.from_residual.result c.from_residual.ensures.1 in
    rw (p.1, p.2) (got-refused _ _ _ (said-err _ _ _ c.in_err-n.ensures _ refl))

pub returns-then-n-index : goal.returns-then-n-index
returns-then-n-index c = got-nothing _ _ _ (said-ok _ _ _ c.in_ok-n.ensures _ refl) c.if-n-index.true

pub returns : goal.returns
returns c = got-one _ _ _ (said-ok _ _ _ c.in_ok-n.ensures _ refl) _ c.if-n-index.false c.read_record.ensures
