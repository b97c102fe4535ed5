use native.Mathlib.Omega.{arith}
use Rattle.std.proofs.Common.{rules}
use Rattle.moves.proofs.Draws.{moving-down-none, moving-down-more, moving-down-all}
use Rattle.moves.proofs.down.Goals as goal

pub loop-at-init : goal.loop-at-init
loop-at-init g c = moving-down-none c.requires

pub loop-at-preserved : goal.loop-at-preserved
loop-at-preserved g c = moving-down-more c.loop-at.invariant (omega arith) _ (search rules)

pub returns : goal.returns
returns g c = moving-down-all c.loop-at.invariant (omega arith)
