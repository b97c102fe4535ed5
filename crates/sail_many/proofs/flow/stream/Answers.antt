use borrow.Author.Rules.{rules}
use native.Mathlib.Omega.{arith}
use Rattle.sail_many.proofs.Flows.{flows-at}
use Rattle.sail_many.proofs.flow.stream.Goals as goal

pub loop-i-init : goal.loop-i-init
loop-i-init c = (search rules, c.requires.2)

pub round-requires : goal.round-requires
round-requires c = (search rules, omega arith, search rules)

pub loop-i-preserved : goal.loop-i-preserved
loop-i-preserved c = (omega arith, flows-at _ _ _ _ _ _ _ _ _ _ _ (omega arith) c.round.ensures)

pub returns : goal.returns
returns c = flows-at _ _ _ _ _ _ _ _ _ _ _ (omega arith) c.loop-i.invariant.1
