-- `sail_judge::announce::wanting`: the chunks in use are counted where one is to be opened.
use mathlib.Core.Path.{ap}
use lib.Dec.{leb}
use Rattle.sail_judge.proofs.announce.wanting.Goals as goal

pub returns-then-opens : goal.returns-then-opens
returns-then-opens c = rw c.if-opens.true (ap (leb _) c.in_use.ensures)

pub returns : goal.returns
returns c = rw c.if-opens.false
