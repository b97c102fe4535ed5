-- `longest::longest`: one law for each way out.
use Rattle.std.proofs.lemmas.Result.{err_from_is_err_and}
use Rattle.routes.proofs.Inputs.{input-records}
use Rattle.longest.proofs.Returns.{its-bytes, says-nothing, says-one, says-refused}
use Rattle.longest.proofs.longest.Goals as goal

pub returns-in_err-n : goal.returns-in_err-n
returns-in_err-n c =
    let p = err_from_is_err_and c.from_residual.result c.from_residual.ensures.1 in
    rw (p.1, p.2) (says-refused c.args.bytes.now _ _ c.in_err-n.ensures)

pub longest_record-requires : goal.longest_record-requires
longest_record-requires c = (input-records _ _ c.in_ok-n.ensures).records

pub returns-in_default : goal.returns-in_default
returns-in_default c = says-nothing _ _ _ c.in_ok-n.ensures c.in_default.ensures

pub read_record-requires : goal.read_record-requires
read_record-requires c = its-bytes (input-records _ _ c.in_ok-n.ensures) c.in-Some.ensures

pub returns : goal.returns
returns c = says-one _ _ _ c.in_ok-n.ensures _ c.in-Some.ensures _ c.read_record.ensures
