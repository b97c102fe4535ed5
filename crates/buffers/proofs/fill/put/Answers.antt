-- The bytes are copied, and what stands after them is zeroed.
use native.Mathlib.Omega.{arith}
use Rattle.buffers.proofs.Fills.{now_set}
use Rattle.buffers.proofs.Copies.{copying-none, copying-more, copying-all, copied_is}
use Rattle.buffers.proofs.fill.put.Goals as goal

pub loop-i-init : goal.loop-i-init
loop-i-init c = copying-none

pub loop-i-preserved : goal.loop-i-preserved
loop-i-preserved c = copying-more c.loop-i.invariant (omega arith)

pub returns : goal.returns
returns c =
    copied_is _ _ _ _ c.requires (copying-all c.loop-i.invariant (omega arith)) (now_set c.fill.ensures.after)
    (omega (arith, c.requires, c.loop-i.invariant.size))
