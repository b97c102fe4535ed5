-- `sail_deal::announce_sound`: room is judged; then the route is refused, passed over if it stands as it is announced, or added.
use Rattle.sail_judge.proofs.AnnounceJudges.{room-ready, room-judged}
use Rattle.sail_deal.proofs.Deals.{announce-stops, found_in, announce-same, announce-goes-on}
use Rattle.sail_deal.proofs.announce_sound.Goals as goal

pub judge_room-f-requires : goal.judge_room-f-requires
judge_room-f-requires c = room-ready c.requires.proper

pub returns-then-f-ne0 : goal.returns-then-f-ne0
returns-then-f-ne0 c =
    announce-stops _ _ _ _ c.requires.ready _ _ (room-judged c.requires.proper c.judge_room-f.ensures) c.if-f-ne0.true

pub stands_so-requires : goal.stands_so-requires
stands_so-requires c =
    found_in _ _ _ _ c.requires.ready _ _ ((room-judged c.requires.proper c.judge_room-f.ensures).on c.if-f-ne0.false)

pub returns-then-stands_so : goal.returns-then-stands_so
returns-then-stands_so c =
    announce-same _ _ _ _ c.requires.ready _ c.requires.proper (λ j. (c.slice_known-1.given j).fits) _
    ((room-judged c.requires.proper c.judge_room-f.ensures).on c.if-f-ne0.false) _ c.stands_so.ensures c.if-stands_so.true

pub add-u-requires : goal.add-u-requires
add-u-requires c =
    record { to_add = (room-judged c.requires.proper c.judge_room-f.ensures).on c.if-f-ne0.false; chained_front = c.requires.ready.chain }

pub returns : goal.returns
returns c =
    announce-goes-on _ _ _ _ _ _ _ _ ((room-judged c.requires.proper c.judge_room-f.ensures).on c.if-f-ne0.false) c.add-u.ensures.0 c.add-u.ensures.1
