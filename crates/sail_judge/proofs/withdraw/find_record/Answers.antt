-- `sail_judge::withdraw::find_record`: the record at the place of the prefix's key has it, or none has.
use Rattle.sail_judge.proofs.WithdrawJudges.{record-stands, record-absent}
use Rattle.sail_judge.proofs.withdraw.find_record.Goals as goal

pub stands_at-requires : goal.stands_at-requires
stands_at-requires c = record { records = c.requires; place = c.place-k.ensures.0 }

pub returns-then-stands_at : goal.returns-then-stands_at
returns-then-stands_at c =
    record-stands _ _ _ _ c.requires _ _ c.key_of-p.ensures.0 c.place-k.ensures.0 _ c.stands_at.ensures c.if-stands_at.true

pub returns : goal.returns
returns c =
    record-absent _ _ _ _ c.requires _ _ c.key_of-p.ensures.0 c.place-k.ensures.0 _ c.stands_at.ensures c.if-stands_at.false
