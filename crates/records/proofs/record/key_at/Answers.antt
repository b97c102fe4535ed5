-- `records::record::key_at`. The key of record k.
use Rattle.routes.proofs.Puts.{key-parts}
use Rattle.records.proofs.record.key_at.Goals as goal

pub returns : goal.returns
returns c = (key-parts _ _ _ c.word_at.ensures _ c.key_of.ensures.0, c.key_of.ensures.1)
