use native.Mathlib.Omega.{arith}
use Rattle.sail_paint.proofs.Chunks.{pool-none, pool-more, pool-all, length-pooled, pool-chunk}
use Rattle.sail_paint.proofs.pool.paint_pool.Goals as goal

pub loop-c-init : goal.loop-c-init
loop-c-init c = pool-none _ _ _ _ _ _ _ _ _ _

pub paint_chunk-requires : goal.paint_chunk-requires
paint_chunk-requires c =
    pool-chunk _ _ _ _ _ _ _ _ _ _ _ _ c.requires (length-pooled _ _ _ _ _ _ _ _ _ _ _ _ c.loop-c.invariant) c.loop-c-test.true
    c.owner_at-o.ensures

pub loop-c-preserved : goal.loop-c-preserved
loop-c-preserved c =
    pool-more _ _ _ _ _ _ _ _ _ _ _ _ _ _ c.owner_at-o.ensures c.loop-c.invariant c.paint_chunk.ensures

pub returns : goal.returns
returns c = pool-all _ _ _ _ _ _ _ _ _ _ _ _ (omega arith) c.requires.chunks c.loop-c.invariant
