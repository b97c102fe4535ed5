-- `pair_withdraw::side::withdraw_sound`. Where the prefix stands, the route is taken out of the table that the party sees, and the owners of the chunks
-- that this closed become 0.
use mathlib.Core.Path.{◌∙◌}
use Rattle.pair_withdraw.proofs.Takings.{sight-size2, sight-size3, record-ready, side-absent, to_take, to-chain, side-taken}
use Rattle.pair_withdraw.proofs.side.withdraw_sound.Goals as goal

pub find_record-f-requires : goal.find_record-f-requires
find_record-f-requires c = record-ready c.requires c.table_for-table.ensures

pub returns-then-f-ne0 : goal.returns-then-f-ne0
returns-then-f-ne0 c = side-absent c.requires c.table_for-table.ensures c.find_record-f.ensures c.if-f-ne0.true

pub take-u-requires : goal.take-u-requires
take-u-requires c =
    let ready = c.requires in
    let own = c.table_for-table.ensures in
    record {
      to_take_in = to_take ready own c.find_record-f.ensures c.if-f-ne0.false;
      chained_front = to-chain ready own c.find_record-f.ensures c.if-f-ne0.false;
    }

pub shut-requires : goal.shut-requires
shut-requires c = c.take-u.auto.own2 ∙ sight-size2 c.requires.sight

pub shut-requires-2 : goal.shut-requires-2
shut-requires-2 c = c.take-u.auto.own3 ∙ sight-size3 c.requires.sight

pub returns : goal.returns
returns c =
    side-taken c.requires c.table_for-table.ensures c.find_record-f.ensures c.if-f-ne0.false c.take-u.ensures.0
    c.shut.ensures c.shut-2.ensures c.with_count.ensures c.take-u.ensures.1
