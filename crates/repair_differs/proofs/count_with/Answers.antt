-- `repair_differs::count_with`. The owners of the load and the words of its routes are made in the room that is lent; the count is beside what
-- these ask for.
use Rattle.repair_differs.proofs.Withs.{owners-ask, words-in, words_room, words-chain, front-in, front-room, all-owned, all-differ}
use Rattle.repair_differs.proofs.count_with.Goals as goal

pub open_all-requires : goal.open_all-requires
open_all-requires c = owners-ask _ _ _ _ _ _ _ _ _ _ c.requires

pub slice_bounds-chained-end : goal.slice_bounds-chained-end
slice_bounds-chained-end c = words-in _ _ _ _ _ _ _ _ _ _ c.requires

pub slice_bounds-chained-end-2 : goal.slice_bounds-chained-end-2
slice_bounds-chained-end-2 c = words_room _ _ _ _ _ _ _ _ _ _ c.requires

pub chained-requires : goal.chained-requires
chained-requires c = words-chain _ _ _ _ _ _ _ _ _ _ c.requires

pub slice_bounds-count_from-end : goal.slice_bounds-count_from-end
slice_bounds-count_from-end c = front-in _ _ _ _ _ _ _ _ _ _ c.requires c.chained.new.ws c.chained.auto.ws

pub slice_bounds-count_from-end-2 : goal.slice_bounds-count_from-end-2
slice_bounds-count_from-end-2 c = front-room _ _ _ _ _ _ _ _ _ _ c.requires c.chained.new.ws c.chained.auto.ws

pub count_from-requires : goal.count_from-requires
count_from-requires c =
    all-owned _ _ _ _ _ _ _ _ _ _ c.requires _ c.chained.auto.ws _ c.chained.ensures _ _ c.open_all.ensures
    c.open_all.auto.own2 c.open_all.auto.own3

pub returns : goal.returns
returns c =
    all-differ _ _ _ _ _ _ _ _ _ _ c.requires _ c.chained.auto.ws _ c.chained.ensures _ _ c.open_all.ensures _
    c.count_from.ensures
