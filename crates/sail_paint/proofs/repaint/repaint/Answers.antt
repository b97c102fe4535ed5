-- `sail_paint::repaint::repaint`. Each level is painted and then stamped; what is asked at each step follows from what is asked at the start,
-- since painting one level leaves the others.
use native.Mathlib.Omega.{arith}
use Rattle.sail_paint.proofs.Rights.{first-asks, first-stamps, second-asks, second-stamps, third-asks, first-is, second_is, third-is}
use Rattle.sail_paint.proofs.repaint.repaint.Goals as goal

pub paint_first-requires : goal.paint_first-requires
paint_first-requires c = first-asks _ _ _ _ _ _ c.requires

pub stamp-requires : goal.stamp-requires
stamp-requires c = first-stamps _ _ _ _ _ _ c.requires _ c.paint_first.auto.first

pub paint_pool-requires : goal.paint_pool-requires
paint_pool-requires c = second-asks _ _ _ _ _ _ c.requires

pub stamp-requires-2 : goal.stamp-requires-2
stamp-requires-2 c = second-stamps _ _ _ _ _ _ c.requires _ c.paint_pool.auto.cells

pub overflow_sub-p2 : goal.overflow_sub-p2
overflow_sub-p2 c = let v = c.requires.celled.valid in omega arith

pub paint_pool-requires-2 : goal.paint_pool-requires-2
paint_pool-requires-2 c = third-asks _ _ _ _ _ _ c.requires

pub returns : goal.returns
returns c =
    record {
      is_first = first-is _ _ _ _ _ _ c.requires _ _ c.paint_first.ensures c.stamp.ensures;
      is_second = second_is _ _ _ _ _ _ c.requires _ _ c.paint_pool.ensures c.stamp-2.ensures;
      is_third = third-is _ _ _ _ _ _ c.requires _ c.paint_pool-2.ensures;
    }
