-- `sail_paint::from_list::repaint_from_list`. The words of the list and their chain are made from nothing; the routes of the words are those of the
-- list, so what is painted from the words is what the list asks for.
use borrow.Author.Rules.{rules}
use Rattle.chain.proofs.Fronts.{below_none, front-in, front-count}
use Rattle.sail_paint.proofs.ByList.{front-stale, from_list}
use Rattle.sail_paint.proofs.from_list.repaint_from_list.Goals as goal

pub chained_from-requires : goal.chained_from-requires
chained_from-requires c = below_none _ _ _ _ c.requires.listed.records (record { words = search rules; chain = search rules })

pub slice_bounds-ws-end : goal.slice_bounds-ws-end
slice_bounds-ws-end c = front-in c.chained_from.ensures

pub slice_bounds-repaint-end : goal.slice_bounds-repaint-end
slice_bounds-repaint-end c = front-count c.chained_from.ensures

pub repaint-requires : goal.repaint-requires
repaint-requires c = front-stale c.requires c.chained_from.ensures

pub returns : goal.returns
returns c = from_list c.requires c.chained_from.ensures c.repaint.ensures
