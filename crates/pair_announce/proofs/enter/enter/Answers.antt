-- `pair_announce::enter::enter`. The route is put into what the party sees, with the lowest chunks that nobody has; then these get the party's owner.
use Rattle.pair_announce.proofs.Sides.{enter-adds, enter-chain, enter-tags2, enter-tags3, enter-done}
use Rattle.pair_announce.proofs.enter.enter.Goals as goal

pub add_in-u-requires : goal.add_in-u-requires
add_in-u-requires c =
    let k = c.requires in
    let low2 = c.chunk_named-c2.ensures.0 in
    let low3 = c.chunk_named-c3.ensures.0 in
    record {
      to_add_in = enter-adds k c.table_for-table.ensures low2 low3;
      chained_front = enter-chain k c.table_for-table.ensures low2 low3;
    }

pub tag-requires : goal.tag-requires
tag-requires c =
    enter-tags2 c.requires c.table_for-table.ensures c.chunk_named-c2.ensures.0 c.chunk_named-c3.ensures.0 c.add_in-u.ensures.0

pub tag-requires-2 : goal.tag-requires-2
tag-requires-2 c =
    enter-tags3 c.requires c.table_for-table.ensures c.chunk_named-c2.ensures.0 c.chunk_named-c3.ensures.0 c.add_in-u.ensures.0

pub returns : goal.returns
returns c =
    enter-done c.requires c.table_for-table.ensures c.chunk_named-c2.ensures.0 c.chunk_named-c3.ensures.0 c.add_in-u.ensures.0
    c.tag.ensures c.tag-2.ensures c.with_count.ensures c.add_in-u.ensures.1
