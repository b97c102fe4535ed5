-- `sail_step::word::read_third`. The third cell is read where the second leads to one, and what leads nowhere is refused.
use Rattle.sail_step.proofs.Words.{put_is, put-not, stays}
use Rattle.sail_step.proofs.word.read_third.Goals as goal

pub returns-then-w-ge2147483648 : goal.returns-then-w-ge2147483648
returns-then-w-ge2147483648 c = put_is _ _ _ _ c.last.ensures

pub returns-else-w-ge2147483648 : goal.returns-else-w-ge2147483648
returns-else-w-ge2147483648 c = put-not _ _ _ (search stays)
