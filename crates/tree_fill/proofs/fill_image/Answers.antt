use mathlib.Core.Path.{refl}
use native.Mathlib.Omega.{arith}
use Rattle.tree_fill.proofs.Steps.{state-waits}
use Rattle.tree_fill.proofs.Ends.{node-taken, filled}
use Rattle.tree_fill.proofs.fill_image.Goals as goal

pub start-requires : goal.start-requires
start-requires c = c.requires

pub loop-i-init : goal.loop-i-init
loop-i-init c = (c.start.ensures, refl, refl)

pub step-used-requires : goal.step-used-requires
step-used-requires c = state-waits _ _ _ _ _ _ c.loop-i.invariant.0 c.loop-i-test.true

pub overflow_add-i : goal.overflow_add-i
overflow_add-i c =
    omega (
      arith,
      node-taken _ _ _ _ _ _ c.loop-i.invariant.0
          c.loop-i-test.true,
      c.loop-i.invariant.0.room.words_fit,
    )

pub loop-i-smaller : goal.loop-i-smaller
loop-i-smaller c =
    omega (
      arith,
      node-taken _ _ _ _ _ _ c.loop-i.invariant.0
          c.loop-i-test.true,
    )

pub loop-i-preserved : goal.loop-i-preserved
loop-i-preserved c = (c.step-used.ensures, omega arith, omega arith)

pub returns : goal.returns
returns c =
    filled _ _ _ _ _ _ c.loop-i.invariant.0 c.loop-i-test.false c.args.words.now c.args.hops.now (omega arith) (omega arith)
