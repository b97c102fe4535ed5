-- `sail_paint::pool::paint_chunk`. A chunk that is free, or hangs from a cell that does not meet the prefix, stays; else its cells are planned.
use mathlib.Core.Bool.{not}
use mathlib.Core.Path.{ap}
use Rattle.sail_paint.proofs.Chunks.{chunk-free, chunk-apart, chunk-over, chunk-above, chunk-cell, chunk_part}
use Rattle.sail_paint.proofs.pool.paint_chunk.Goals as goal

pub returns-then-o-eq0 : goal.returns-then-o-eq0
returns-then-o-eq0 c = chunk-free _ _ _ _ _ _ _ _ _ _ _ c.if-o-eq0.true

pub stands_for-i-requires : goal.stands_for-i-requires
stands_for-i-requires c = chunk-above _ _ _ _ _ _ _ _ _ _ c.requires c.if-o-eq0.false

pub returns-then-not-meets : goal.returns-then-not-meets
returns-then-not-meets c = chunk-apart _ _ _ _ _ _ _ _ _ _ _ _ _ c.stands_for-i.ensures c.meets.ensures (ap not c.if-not-meets.true)

pub shifted-base-requires : goal.shifted-base-requires
shifted-base-requires c = chunk-cell _ _ _ _ _ _ _ _ _ _ c.requires c.if-o-eq0.false _ c.stands_for-i.ensures

pub paint_part-requires : goal.paint_part-requires
paint_part-requires c =
    chunk_part _ _ _ _ _ _ _ _ _ _ c.requires c.if-o-eq0.false _ _ _ _ c.stands_for-i.ensures c.shifted-a.ensures.0
    c.shifted.ensures.0 c.shifted-base.ensures.0

pub returns : goal.returns
returns c =
    chunk-over _ _ _ _ _ _ _ _ _ _ _ _ _ _ _ _ _ c.if-o-eq0.false c.stands_for-i.ensures c.meets.ensures (ap not c.if-not-meets.false)
    c.shifted-a.ensures.0 c.shifted.ensures.0 c.shifted-base.ensures.0 c.paint_part.ensures
