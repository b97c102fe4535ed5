-- `sail_add::count_with`. How many routes stand after one was put into n, by whether its prefix stood.
use borrow.Author.Rules.{rules}
use Rattle.sail_add.proofs.count_with.Goals as goal

pub returns-then-stood : goal.returns-then-stood
returns-then-stood c = (rw c.if-stood.true, search rules)

pub returns : goal.returns
returns c = (rw c.if-stood.false, search rules)
