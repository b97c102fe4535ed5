-- `pair_load::side::clear_side`. The party's chunks are those that it sees; the owners of the second pool are freed with the cells, and again with the
-- counts, which changes nothing.
use native.Mathlib.Omega.{arith}
use Rattle.pair_load.proofs.Closes.{closable, closable-again, cleared}
use Rattle.pair_load.proofs.side.clear_side.Goals as goal

pub overflow_sub-d2 : goal.overflow_sub-d2
overflow_sub-d2 c = let v = c.requires.clear_ready.valid in omega arith

pub overflow_sub-d3 : goal.overflow_sub-d3
overflow_sub-d3 c = let v = c.requires.clear_ready.valid in omega arith

pub view-requires : goal.view-requires
view-requires c = c.requires.sight.room2

pub view-requires-2 : goal.view-requires-2
view-requires-2 c = c.requires.sight.room3

pub close_all-requires : goal.close_all-requires
close_all-requires c =
    let z = c.requires.clear_ready in
    closable _ _ _ _ _ c.view.ensures z.few2 z.valid.near z.cells2

pub close_all-requires-2 : goal.close_all-requires-2
close_all-requires-2 c =
    let z = c.requires.clear_ready in
    closable-again _ _ _ _ _ _ c.view.ensures c.close_all.ensures.owner z.few2 z.valid.near z.counts2

pub close_all-requires-3 : goal.close_all-requires-3
close_all-requires-3 c =
    let z = c.requires.clear_ready in
    let v = z.valid in
    closable _ _ _ _ _ c.view-2.ensures z.few3 (omega arith) z.cells3

pub returns : goal.returns
returns c =
    cleared _ _ _ _ _ _ _ c.view.ensures c.view-2.ensures c.close_all.ensures.owner c.close_all.ensures.blank
    c.close_all-2.ensures.owner c.close_all-2.ensures.blank c.close_all-3.ensures.owner c.close_all-3.ensures.blank
