use Rattle.header.proofs.Faults.{sum-none, sum_more}
use native.Mathlib.Omega.{arith}
use Rattle.header.proofs.halves.sum.Goals as goal

pub loop-i-init : goal.loop-i-init
loop-i-init c = (sum-none c.args.packet.now, omega arith)

pub loop-i-preserved : goal.loop-i-preserved
loop-i-preserved c =
    (sum_more c.args.packet.now _ _ _ _ c.loop-i.invariant.0 c.half.ensures.0 c.add-s.ensures.0, c.add-s.ensures.1)
