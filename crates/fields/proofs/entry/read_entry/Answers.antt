-- `fields::entry::read_entry`: the bytes that the length needs, zeros after them, cut to the length.
use native.Mathlib.Omega.{arith}
use Rattle.fields.proofs.Reading.{entry-is}
use Rattle.fields.proofs.entry.read_entry.Goals as goal

pub returns : goal.returns
returns c =
    entry-is _ _ c.requires _ _ _ _ c.from-l.ensures c.bytes_for-n.ensures.0 _ _ (omega arith) c.copy_from_slice.ensures.after c.from_be_bytes.ensures
    (omega arith) c.cut.ensures
