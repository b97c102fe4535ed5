-- `records::record::read_record`. The route of record k.
use Rattle.routes.proofs.Puts.{record-parts}
use Rattle.records.proofs.record.read_record.Goals as goal

pub returns : goal.returns
returns c = record-parts _ _ _ c.word_at.ensures _ c.half_at.ensures
