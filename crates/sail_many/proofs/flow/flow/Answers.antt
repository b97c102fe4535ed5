-- `sail_many::flow::flow`. The answers by turns.
use borrow.Author.Rules.{rules}
use native.Mathlib.Omega.{arith}
use Rattle.sail_many.proofs.flow.flow.Goals as goal

pub stream-requires : goal.stream-requires
stream-requires c = (search rules, omega arith, search rules)

pub finish-requires : goal.finish-requires
finish-requires c = (search rules, omega arith, search rules)
