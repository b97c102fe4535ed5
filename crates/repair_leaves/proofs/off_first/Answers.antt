use native.Mathlib.Omega.{arith}
use borrow.Author.Rules.{rules}
use Rattle.repair_leaves.proofs.Counts.{count-start}
use Rattle.repair_leaves.proofs.Blocks.{first_block, first_fits, first_more, first-all}
use Rattle.repair_leaves.proofs.off_first.Goals as goal

pub loop-b-init : goal.loop-b-init
loop-b-init c = (c.requires.room, omega arith, count-start _)

pub off_block-m-requires : goal.off_block-m-requires
off_block-m-requires c = first_block _ _ _ _ _ c.requires _ c.loop-b.invariant.0 _ c.loop-b-test.true

pub overflow_add-m : goal.overflow_add-m
overflow_add-m c =
    let fits = first_fits _ _ _ _ _ c.requires _ _ _
    c.loop-b.invariant.1 c.loop-b-test.true c.off_block-m.ensures.few in
    omega (arith, fits.0)

pub loop-b-preserved : goal.loop-b-preserved
loop-b-preserved c = (
  search rules,
  (first_fits _ _ _ _ _ c.requires _ _ _ c.loop-b.invariant.1 c.loop-b-test.true
      c.off_block-m.ensures.few).1,
  first_more _ _ _ _ _ c.requires _ _ _ _ c.loop-b.invariant.2 c.off_block-m.ensures,
)

pub returns : goal.returns
returns c =
    first-all _ _ _ _ _ c.requires _ _ _ (omega arith) (omega arith) c.loop-b.invariant.1 c.loop-b.invariant.2
