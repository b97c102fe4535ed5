-- `repair_leaves::off_block`. The plan is made in the front of the room that is lent, and the part is compared with it.
use Rattle.repair_leaves.proofs.Blocks.{block_room, block-asks, front-room, block-beside, block-counted}
use Rattle.repair_leaves.proofs.off_block.Goals as goal

pub slice_bounds-plan_under-end-2 : goal.slice_bounds-plan_under-end-2
slice_bounds-plan_under-end-2 c = block_room _ _ _ _ _ _ _ _ _ _ c.requires

pub plan_under-requires : goal.plan_under-requires
plan_under-requires c = block-asks _ _ _ _ _ _ _ _ _ _ c.requires

pub slice_bounds-off_plan-end-3 : goal.slice_bounds-off_plan-end-3
slice_bounds-off_plan-end-3 c = front-room _ _ _ _ _ _ _ _ _ _ c.requires c.plan_under.new.out c.plan_under.auto.out

pub off_plan-requires : goal.off_plan-requires
off_plan-requires c = block-beside _ _ _ _ _ _ _ _ _ _ c.requires c.plan_under.new.out c.plan_under.auto.out

pub returns : goal.returns
returns c =
    block-counted _ _ _ _ _ _ _ _ _ _ c.requires c.plan_under.new.out c.plan_under.auto.out _
    c.plan_under.ensures _ c.off_plan.ensures
