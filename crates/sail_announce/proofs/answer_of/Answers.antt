-- `sail_announce::answer_of`. What putting a route into the list answers for the table, by whether its prefix stood and whether bits were cleared.
use Rattle.sail_announce.specs.Answers.{means_announce}
use Rattle.sail_announce.proofs.answer_of.Goals as goal

pub returns-then-stood : goal.returns-then-stood
unfolding means_announce
returns-then-stood c = rw c.if-stood.true

pub returns : goal.returns
unfolding means_announce
returns c = rw c.if-stood.false
