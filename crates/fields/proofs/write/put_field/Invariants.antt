-- `fields::write::put_field`. The invariant: the field of the first k records is at the front, and the buffer after it is as it was.
use Rattle.std.specs.Prelude.{◌≡◌, ◌++◌, length, drop}
use Rattle.routes.specs.Record.{routes_of}
use Rattle.fields.specs.Field.{field_of}
use Rattle.fields.proofs.write.put_field.Given as goal

abbrev pub invariant-loop-k : goal.invariant-loop-k
invariant-loop-k l = (l.at ≡ length (field_of (routes_of l.input l.k))) × (l.out ≡ field_of (routes_of l.input l.k) ++ drop l.at l.initial.out)
