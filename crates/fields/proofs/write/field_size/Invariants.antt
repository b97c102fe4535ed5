-- `fields::write::field_size`. The invariant: the size of the field of the first k records, at most five bytes for each.
use Rattle.std.specs.Prelude.{◌≡◌, ◌*◌, ◌≤◌, length}
use Rattle.routes.specs.Record.{routes_of}
use Rattle.fields.specs.Field.{field_of}
use Rattle.fields.proofs.write.field_size.Given as goal

abbrev pub invariant-loop-k : goal.invariant-loop-k
invariant-loop-k l = (l.size ≡ length (field_of (routes_of l.input l.k))) × (l.size ≤ 5 * l.k)
