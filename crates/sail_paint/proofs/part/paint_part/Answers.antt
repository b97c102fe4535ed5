-- `sail_paint::part::paint_part`. The part is planned in place, and the cells before and after it stay.
use borrow.Rule.Slice.PartMut.{mid_len}
use Rattle.sail_paint.proofs.Overs.{part-over}
use Rattle.sail_paint.proofs.part.paint_part.Goals as goal

pub plan_under-requires : goal.plan_under-requires
plan_under-requires c = rw (mid_len _ _ _ c.requires.inside) c.requires.block

pub returns : goal.returns
returns c = part-over _ _ _ _ _ _ _ c.requires.rises c.requires.inside c.plan_under.ensures
