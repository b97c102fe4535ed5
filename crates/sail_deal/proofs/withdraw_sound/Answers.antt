-- `sail_deal::withdraw_sound`: the record is looked for, and passed over, or taken out.
use Rattle.sail_take.proofs.TakesAlone.{take-alone}
use Rattle.sail_deal.proofs.Deals.{withdraw-passes, found_take, withdraw-takes}
use Rattle.sail_deal.proofs.withdraw_sound.Goals as goal

pub find_record-f-requires : goal.find_record-f-requires
find_record-f-requires c = c.requires.ready.sound.listed.records

pub returns-then-f-ne0 : goal.returns-then-f-ne0
returns-then-f-ne0 c = withdraw-passes _ _ _ _ c.requires.ready _ _ c.requires.prefix _ c.find_record-f.ensures c.if-f-ne0.true

pub take-requires : goal.take-requires
take-requires c =
    record { to_take_in = take-alone (found_take _ _ _ _ c.requires.ready _ _ c.requires.prefix _ c.find_record-f.ensures c.if-f-ne0.false); chained_front = c.requires.ready.chain }

pub returns : goal.returns
returns c =
    withdraw-takes _ _ _ _ _ _ _ _ _
    (found_take _ _ _ _ c.requires.ready _ _ c.requires.prefix _ c.find_record-f.ensures c.if-f-ne0.false)
    c.take.ensures.0 c.take.ensures.1
