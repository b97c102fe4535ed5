use native.Mathlib.Omega.{arith}
use Rattle.std.proofs.Common.{rules}
use Rattle.moves.proofs.Draws.{moving-up-none, moving-up-more, moving-up-all}
use Rattle.moves.proofs.up.Goals as goal

pub loop-at-init : goal.loop-at-init
loop-at-init g c = moving-up-none c.requires

pub loop-at-preserved : goal.loop-at-preserved
loop-at-preserved g c = moving-up-more c.loop-at.invariant (omega arith) _ (search rules)

pub returns : goal.returns
returns g c = moving-up-all c.loop-at.invariant (omega arith)
