-- `pair_announce::answer`. A refusal, or what a table of one answers.
use Rattle.pair_announce.proofs.Answers.{answer-refused, answer-accepted}
use Rattle.pair_announce.proofs.answer.Goals as goal

pub returns-then-number-ne0 : goal.returns-then-number-ne0
returns-then-number-ne0 c = answer-refused _ c.args.stood c.args.cleared c.if-number-ne0.true

pub returns : goal.returns
returns c = answer-accepted _ c.args.stood c.args.cleared c.if-number-ne0.false _ c.answer_of.ensures
