-- `repair_leaves::off_chunk`. A free chunk is compared with 0, another with its plan.
use Rattle.sail_paint.proofs.Chunks.{chunk-above, chunk-cell}
use Rattle.repair_leaves.proofs.Pools.{free-counted, used-counted, chunk-block}
use Rattle.repair_leaves.proofs.off_chunk.Goals as goal

pub returns-then-o-eq0 : goal.returns-then-o-eq0
returns-then-o-eq0 c =
    free-counted _ _ _ _ _ _ _ _ _ _ c.requires _ _ c.shifted-a.ensures.0 c.shifted.ensures.0 _
    c.if-o-eq0.true _ c.off_zero.ensures

pub stands_for-i-requires : goal.stands_for-i-requires
stands_for-i-requires c = chunk-above _ _ _ _ _ _ _ _ _ _ c.requires.chunk c.if-o-eq0.false

pub shifted-base-requires : goal.shifted-base-requires
shifted-base-requires c = chunk-cell _ _ _ _ _ _ _ _ _ _ c.requires.chunk c.if-o-eq0.false _ c.stands_for-i.ensures

pub off_block-requires : goal.off_block-requires
off_block-requires c =
    chunk-block _ _ _ _ _ _ _ _ _ _ c.requires _ _ c.shifted-a.ensures.0 c.shifted.ensures.0 c.if-o-eq0.false _ _
    c.stands_for-i.ensures c.shifted-base.ensures.0

pub returns : goal.returns
returns c =
    used-counted _ _ _ _ _ _ _ _ _ _ c.requires _ _ c.shifted-a.ensures.0 c.shifted.ensures.0 _
    c.if-o-eq0.false _ _
    c.stands_for-i.ensures c.shifted-base.ensures.0 _ c.off_block.ensures
