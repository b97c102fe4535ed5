-- `fields::write::write_field`: the input is checked, then the room, and then the field is put.
use native.Mathlib.Omega.{arith}
use Rattle.std.proofs.lemmas.Result.{err_from_is_err_and}
use Rattle.routes.proofs.Inputs.{input-records}
use Rattle.fields.proofs.WriterSays.{say-refused, say-short, say-bytes}
use Rattle.fields.proofs.write.write_field.Goals as goal

pub returns-in_err-n : goal.returns-in_err-n
returns-in_err-n c =
    let p = err_from_is_err_and c.from_residual.result c.from_residual.ensures.1 in
    rw (p.1, p.2) (say-refused c.args.input.now _ _ c.in_err-n.ensures)

pub field_size-size-requires : goal.field_size-size-requires
field_size-size-requires c = (input-records _ _ c.in_ok-n.ensures).records

pub returns-then-out-size : goal.returns-then-out-size
returns-then-out-size c = rw c.into.ensures (say-short _ _ _ c.in_ok-n.ensures _ c.field_size-size.ensures.0 c.if-out-size.true)

pub put_field-requires : goal.put_field-requires
put_field-requires c = record {
  records = (input-records _ _ c.in_ok-n.ensures).records;
  room = omega (arith, c.field_size-size.ensures.0, c.if-out-size.false);
}

pub returns : goal.returns
returns c = say-bytes _ _ _ c.in_ok-n.ensures _ c.field_size-size.ensures.0 c.if-out-size.false _ c.put_field.ensures.put
