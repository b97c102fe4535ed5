-- `runs::tally::length_at`. The length of record k.
use Rattle.routes.specs.Record.{record_at}
use borrow.Author.Rules.{rules}
use Rattle.runs.proofs.tally.length_at.Goals as goal

pub returns : goal.returns
unfolding record_at
returns c = search rules
