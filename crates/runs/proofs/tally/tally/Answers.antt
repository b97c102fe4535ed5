-- `runs::tally::tally`: each arm has its law.
use Rattle.routes.proofs.Inputs.{input-records}
use Rattle.runs.proofs.Tallies.{good-counts, no-counts}
use Rattle.runs.proofs.tally.tally.Goals as goal

pub lengths-counts-requires : goal.lengths-counts-requires
lengths-counts-requires c = (input-records _ _ c.in-Ok.ensures).records

pub returns-in-Ok : goal.returns-in-Ok
returns-in-Ok c = record { answered = c.in-Ok.ensures; counted = good-counts _ _ _ c.in-Ok.ensures c.lengths-counts.ensures }

pub returns-in-Err : goal.returns-in-Err
returns-in-Err c = record { answered = c.check_input-answer.ensures; counted = no-counts _ _ c.in-Err.ensures }
