-- `sail_add::add_in`. Chunks are opened and the route is put into the list, as was found; then what it touches is stale, and is painted. The first
-- cells then lead to the place that serves the route, and it is counted there.
use native.Mathlib.Omega.{arith}
use Rattle.chain.proofs.Fronts.{front-in, front-count}
use Rattle.sail_paint.proofs.ByList.{front-stale, from_list}
use Rattle.sail_add.proofs.Adds.{add-ready, add-openable, PutIn, put_in, add-pending, add-bookable, add_done}
use Rattle.sail_add.proofs.add_in.Goals as goal

pub open-requires : goal.open-requires
open-requires c = add-openable c.requires.to_add_in

pub put_in-m-requires : goal.put_in-m-requires
put_in-m-requires c = add-ready c.requires.to_add_in c.requires.chained_front

pub slice_bounds-repaint-end : goal.slice_bounds-repaint-end
slice_bounds-repaint-end c = front-in c.put_in-m.ensures.chain

pub slice_bounds-repaint-end-2 : goal.slice_bounds-repaint-end-2
slice_bounds-repaint-end-2 c = front-count c.put_in-m.ensures.chain

pub repaint-requires : goal.repaint-requires
repaint-requires c =
    let known_put : PutIn =
    put_in c.requires.to_add_in c.put_in-m.ensures.list c.put_in-m.ensures.count (c.open.ensures.second, c.open.ensures.third) in
    front-stale (add-pending known_put c.byte_to_word.ensures.0) c.put_in-m.ensures.chain

pub count_in-requires : goal.count_in-requires
count_in-requires c =
    let known_put : PutIn =
    put_in c.requires.to_add_in c.put_in-m.ensures.list c.put_in-m.ensures.count (c.open.ensures.second, c.open.ensures.third) in
    add-bookable known_put
    (from_list (add-pending known_put c.byte_to_word.ensures.0) c.put_in-m.ensures.chain c.repaint.ensures)

pub overflow_cast-result : goal.overflow_cast-result
overflow_cast-result c = omega (arith, c.put_in-m.ensures.few)

pub returns : goal.returns
returns c =
    let known_put : PutIn =
    put_in c.requires.to_add_in c.put_in-m.ensures.list c.put_in-m.ensures.count (c.open.ensures.second, c.open.ensures.third) in
    let painted = from_list (add-pending known_put c.byte_to_word.ensures.0) c.put_in-m.ensures.chain c.repaint.ensures in
    (add_done known_put painted c.count_in.ensures c.count_in.auto.long1 c.count_in.auto.long2, c.put_in-m.ensures.chain)
