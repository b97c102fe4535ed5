use native.Mathlib.Omega.{arith}
use Rattle.sail_many.proofs.Flows.{sweeping-none, spot-at, sweeping-more, sweeping-all}
use Rattle.sail_many.proofs.pass.read_seconds.Goals as goal

pub loop-i-init : goal.loop-i-init
loop-i-init c = sweeping-none c.requires.2

pub read_second-requires : goal.read_second-requires
read_second-requires c = (c.requires.0, c.requires.1, spot-at c.loop-i.invariant (omega arith))

pub loop-i-preserved : goal.loop-i-preserved
loop-i-preserved c = sweeping-more c.loop-i.invariant (omega arith) c.read_second.ensures

pub returns : goal.returns
returns c = sweeping-all c.loop-i.invariant (omega arith)
