-- `sail_judge::announce::judge_room`: each way has its law.
use Rattle.sail_judge.proofs.AnnounceJudges.{Sought, sought, RoomLeft, fitting, room-stands, room-full, room-second, room-third, room-enough}
use Rattle.sail_judge.proofs.announce.judge_room.Goals as goal

pub place-k-requires : goal.place-k-requires
place-k-requires c = c.requires.listed.records

pub stands_at-requires : goal.stands_at-requires
stands_at-requires c = record { records = c.requires.listed.records; place = c.place-k.ensures.0 }

pub returns-then-stands_at : goal.returns-then-stands_at
returns-then-stands_at c =
    let looked_up : Sought = sought c.requires c.key_of-p.ensures.0 c.place-k.ensures.0 c.stands_at.ensures in
    rw c.nothing.ensures (room-stands looked_up c.if-stands_at.true)

pub returns-then-list-n : goal.returns-then-list-n
returns-then-list-n c =
    let looked_up : Sought = sought c.requires c.key_of-p.ensures.0 c.place-k.ensures.0 c.stands_at.ensures in
    room-full looked_up c.if-stands_at.false c.if-list-n.true _ c.refusal.ensures

pub to_open-o-requires : goal.to_open-o-requires
to_open-o-requires c = c.requires.serving

pub wanting-requires : goal.wanting-requires
wanting-requires c = c.requires.serving.few2

pub returns-then-wanting : goal.returns-then-wanting
returns-then-wanting c =
    let looked_up : Sought = sought c.requires c.key_of-p.ensures.0 c.place-k.ensures.0 c.stands_at.ensures in
    let fits : RoomLeft = fitting looked_up c.if-stands_at.false c.if-list-n.false c.to_open-o.ensures in
    room-second fits c.wanting.ensures c.if-wanting.true _ c.refusal-then-wanting.ensures

pub wanting-requires-2 : goal.wanting-requires-2
wanting-requires-2 c = c.requires.serving.few3

pub returns-then-wanting-2 : goal.returns-then-wanting-2
returns-then-wanting-2 c =
    let looked_up : Sought = sought c.requires c.key_of-p.ensures.0 c.place-k.ensures.0 c.stands_at.ensures in
    let fits : RoomLeft = fitting looked_up c.if-stands_at.false c.if-list-n.false c.to_open-o.ensures in
    room-third fits c.wanting.ensures c.if-wanting.false c.wanting-2.ensures c.if-wanting-2.true _ c.refusal-then-wanting-2.ensures

pub returns : goal.returns
returns c =
    let looked_up : Sought = sought c.requires c.key_of-p.ensures.0 c.place-k.ensures.0 c.stands_at.ensures in
    let fits : RoomLeft = fitting looked_up c.if-stands_at.false c.if-list-n.false c.to_open-o.ensures in
    room-enough fits c.wanting.ensures c.if-wanting.false c.wanting-2.ensures c.if-wanting-2.false
