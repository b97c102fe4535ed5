use native.Mathlib.Omega.{arith}
use Rattle.sail_many.proofs.Flows.{sweeping-none, spot-at, sweeping-more, sweeping-all}
use Rattle.sail_many.proofs.pass.read_firsts.Goals as goal

pub loop-i-init : goal.loop-i-init
loop-i-init c = sweeping-none c.requires.1

pub read_first-requires : goal.read_first-requires
read_first-requires c = (c.requires.0, spot-at c.loop-i.invariant (omega arith))

pub loop-i-preserved : goal.loop-i-preserved
loop-i-preserved c = sweeping-more c.loop-i.invariant (omega arith) c.read_first.ensures

pub returns : goal.returns
returns c = sweeping-all c.loop-i.invariant (omega arith)
