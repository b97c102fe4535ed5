-- `sail_deal::stands_so`: the record is read if there is one, and its hop and its mark compared.
use Rattle.sail_deal.proofs.Same.{so-mark, so-not}
use Rattle.sail_deal.proofs.stands_so.Goals as goal

pub read_record-s-requires : goal.read_record-s-requires
read_record-s-requires c = c.requires.inside c.if-stands.true

pub returns-then-s-r : goal.returns-then-s-r
returns-then-s-r c = so-mark _ _ _ c.args.r _ c.read_record-s.ensures c.if-stands.true c.if-s-r.true

pub returns-else-s-r : goal.returns-else-s-r
returns-else-s-r c = so-not _ _ _ c.args.r _ c.read_record-s.ensures c.if-stands.true c.if-s-r.false
