-- `sail_renew::lay`. The list is put in place, and the first counts are emptied. Every live cell may be stale, so what is painted is what the routes and
-- the owners ask; then the routes are counted, one after the other. Nothing else is read or written.
use native.Mathlib.Omega.{arith}
use Rattle.buffers.proofs.Fills.{now_set}
use Rattle.sail_renew.proofs.Renews.{fits-list, pending, uncounted, lays}
use Rattle.sail_renew.proofs.lay.Goals as goal

pub put-requires : goal.put-requires
put-requires c = fits-list _ _ _ c.requires

pub repaint_from_list-requires : goal.repaint_from_list-requires
repaint_from_list-requires c = pending _ _ _ c.requires

pub count_all-requires : goal.count_all-requires
count_all-requires c = uncounted _ _ _ c.requires _ _ _ c.repaint_from_list.ensures _ (now_set c.fill.ensures.after)

pub returns : goal.returns
returns c =
    lays _ _ _ c.requires _ _ _ c.repaint_from_list.ensures (λ j. omega (arith, c.shared_slice_known-1.given j)) _ _ _
    c.put.ensures c.count_all.ensures
