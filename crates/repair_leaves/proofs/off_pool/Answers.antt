use native.Mathlib.Omega.{arith}
use borrow.Author.Rules.{rules}
use Rattle.repair_leaves.proofs.Pools.{chunk_of, pool-start, pool-fits, pool-more, pool-all}
use Rattle.repair_leaves.proofs.off_pool.Goals as goal

pub loop-c-init : goal.loop-c-init
loop-c-init c = (c.requires.room, omega arith, pool-start _ _ _ _ _ _ _ _ _ c.requires _)

pub off_chunk-m-requires : goal.off_chunk-m-requires
off_chunk-m-requires c = chunk_of _ _ _ _ _ _ _ _ _ c.requires _ c.loop-c.invariant.0 _ _ c.loop-c-test.true c.owner_at-o.ensures

pub overflow_add-m : goal.overflow_add-m
overflow_add-m c =
    let fits = pool-fits _ _ _ _ _ _ _ _ _ c.requires _ _ _
    c.loop-c.invariant.1 c.loop-c-test.true c.off_chunk-m.ensures.few in
    omega (arith, fits.0)

pub loop-c-preserved : goal.loop-c-preserved
loop-c-preserved c = (
  search rules,
  (pool-fits _ _ _ _ _ _ _ _ _ c.requires _ _ _ c.loop-c.invariant.1 c.loop-c-test.true
      c.off_chunk-m.ensures.few).1,
  pool-more _ _ _ _ _ _ _ _ _ c.requires _ _ _ _ _ c.owner_at-o.ensures c.loop-c.invariant.2
      c.off_chunk-m.ensures,
)

pub returns : goal.returns
returns c =
    pool-all _ _ _ _ _ _ _ _ _ c.requires _ _ _ (omega arith) (omega arith) c.loop-c.invariant.1 c.loop-c.invariant.2
