-- `pair_announce::enter::owner`. The top bit is the second party's.
use native.Mathlib.Omega.{arith}
use Rattle.pair_announce.proofs.TagLaws.{second-owner, first-owner}
use Rattle.pair_announce.proofs.enter.owner.Goals as goal

pub overflow_add-result : goal.overflow_add-result
overflow_add-result c = omega (arith, c.requires.small)

pub returns-then-guest : goal.returns-then-guest
returns-then-guest c = second-owner _ _ c.requires c.if-guest.true

pub returns : goal.returns
returns c = first-owner _ _ c.requires c.if-guest.false
