-- `pair_announce::enter::announce_sound`. The room is judged with the owners as the party sees them; where nothing is refused, the route is put in.
use Rattle.pair_announce.proofs.Sides.{room-asks, room_says, turn-refused, turn-enters, turn-entered}
use Rattle.pair_announce.proofs.enter.announce_sound.Goals as goal

pub judge_room-f-requires : goal.judge_room-f-requires
judge_room-f-requires c = room-asks c.requires c.table_for-table.ensures c.share_of-share.ensures

pub returns-then-f-ne0 : goal.returns-then-f-ne0
returns-then-f-ne0 c =
    let k = c.requires in
    turn-refused k (room_says k c.table_for-table.ensures c.share_of-share.ensures c.judge_room-f.ensures) c.if-f-ne0.true _

pub enter-u-requires : goal.enter-u-requires
enter-u-requires c =
    let k = c.requires in
    turn-enters k (room_says k c.table_for-table.ensures c.share_of-share.ensures c.judge_room-f.ensures) c.if-f-ne0.false

pub returns : goal.returns
returns c =
    let k = c.requires in
    turn-entered k (room_says k c.table_for-table.ensures c.share_of-share.ensures c.judge_room-f.ensures) c.if-f-ne0.false c.enter-u.ensures
