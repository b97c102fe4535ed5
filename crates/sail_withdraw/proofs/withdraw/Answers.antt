-- `sail_withdraw::withdraw`: the address is cleared, the prefix judged, and then it is refused or taken.
use mathlib.Core.Path.{refl}
use borrow.Author.Rules.{rules}
use Rattle.sail_take.proofs.TakesAlone.{take-alone}
use Rattle.sail_withdraw.proofs.WithdrawReturns.{withdraw-refused, withdraw-removed}
use Rattle.sail_withdraw.proofs.withdraw.Goals as goal

pub judge_withdraw-f-requires : goal.judge_withdraw-f-requires
judge_withdraw-f-requires c = record { words = search rules; chain = search rules }

pub returns-then-f-ne0 : goal.returns-then-f-ne0
returns-then-f-ne0 c = withdraw-refused _ _ _ _ _ c.clear_after-a.ensures _ c.judge_withdraw-f.ensures.0 c.if-f-ne0.true

pub take-u-requires : goal.take-u-requires
take-u-requires c =
    let told = c.judge_withdraw-f.ensures in
    record { to_take_in = take-alone (told.0.on c.if-f-ne0.false); chained_front = told.1.on c.if-f-ne0.false }

pub returns : goal.returns
returns c =
    withdraw-removed _ _ _ _ _ c.clear_after-a.ensures c.judge_withdraw-f.ensures.0 c.if-f-ne0.false
    c.take-u.ensures.0 _ refl
