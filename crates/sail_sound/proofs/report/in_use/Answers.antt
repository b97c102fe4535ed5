use native.Mathlib.Omega.{arith}
use Rattle.sail_sound.proofs.Reports.{used-none, used-one, used-free, used_all}
use Rattle.sail_sound.proofs.report.in_use.Goals as goal
use Rattle.sail_sound.proofs.report.in_use.Goals.{then-o-ne0, else-o-ne0}

pub loop-o-init : goal.loop-o-init
loop-o-init c = (omega arith, used-none c.args.own.now)

pub loop-o-preserved : goal.loop-o-preserved
loop-o-preserved c = elim c.if-o-ne0.branch [
  | then-o-ne0 w ↦ rw w.n-is (omega (arith, c.loop-o.invariant.0), used-one _ _ _ c.loop-o.invariant.1 w.if-o-ne0.true)
  | else-o-ne0 w ↦ rw w.n-is (omega (arith, c.loop-o.invariant.0), used-free _ _ _ c.loop-o.invariant.1 w.if-o-ne0.false)
]
