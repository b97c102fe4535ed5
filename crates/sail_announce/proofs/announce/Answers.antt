-- `sail_announce::announce`: the address is cleared, the route judged, and then it is refused or added.
use mathlib.Core.Path.{refl}
use borrow.Author.Rules.{rules}
use Rattle.sail_announce.proofs.AnnounceReturns.{announce-refused, announce-added}
use Rattle.sail_announce.proofs.announce.Goals as goal

pub judge_announce-f-requires : goal.judge_announce-f-requires
judge_announce-f-requires c = record { words = search rules; chain = search rules }

pub returns-then-f-ne0 : goal.returns-then-f-ne0
returns-then-f-ne0 c = announce-refused _ _ _ _ _ _ _ c.clear_after-a.ensures _ c.judge_announce-f.ensures.0 c.if-f-ne0.true

pub add-u-requires : goal.add-u-requires
add-u-requires c =
    let told = c.judge_announce-f.ensures in
    record { to_add = told.0.on c.if-f-ne0.false; chained_front = told.1.on c.if-f-ne0.false }

pub returns : goal.returns
returns c =
    announce-added _ _ _ _ _ _ _ c.clear_after-a.ensures _
    (c.judge_announce-f.ensures.0.on c.if-f-ne0.false) c.add-u.ensures.0 _ refl _ c.answer_of.ensures
