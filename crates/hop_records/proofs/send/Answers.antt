-- `hop_records::send`: the record at the place is answered and counted; past the end nothing happens.
use Rattle.hop_records.proofs.Steps.{send-word, send-is, past_word, past_is}
use Rattle.hop_records.proofs.send.Goals as goal

pub returns-then-k-records : goal.returns-then-k-records
returns-then-k-records c = (
  send-word c.args.records.now c.args.k c.args.w c.args.none _ c.if-k-records.true c.with_record-s.ensures,
  send-is c.args.records.now c.args.k c.args.n _ c.after.ensures,
)

pub returns-else-k-records : goal.returns-else-k-records
returns-else-k-records c = (
  past_word c.args.records.now c.args.k c.args.w c.args.none c.if-k-records.false,
  past_is c.args.records.now c.args.k c.args.n c.if-k-records.false,
)
