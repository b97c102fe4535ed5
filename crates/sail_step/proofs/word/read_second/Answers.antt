-- `sail_step::word::read_second`. The second cell is read where the first leads to one.
use Rattle.sail_step.proofs.Words.{put_is, put-not, goes_down, goes-not}
use Rattle.sail_step.proofs.word.read_second.Goals as goal

pub returns-then-c-chunks : goal.returns-then-c-chunks
returns-then-c-chunks c = put_is _ _ _ _ (search goes_down)

pub returns-else-c-chunks : goal.returns-else-c-chunks
returns-else-c-chunks c = put-not _ _ _ (search goes-not)
