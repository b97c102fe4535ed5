-- `sail_many::flow::round`. Two turns, so that a loop has half the tests of its own.
use borrow.Author.Rules.{rules}
use Rattle.sail_many.proofs.Flows.{flows-pair, ready-standard, standard-pair}
use Rattle.sail_many.proofs.flow.round.Goals as goal

pub turn-requires : goal.turn-requires
turn-requires c = (search ready-standard, search rules, search rules)

pub turn-requires-then-p2-standard : goal.turn-requires-then-p2-standard
turn-requires-then-p2-standard c = (search ready-standard, search rules, search rules)

pub returns-then-p2-standard : goal.returns-then-p2-standard
returns-then-p2-standard c = search standard-pair

pub returns : goal.returns
returns c = search flows-pair
