-- `sail_step::turn::turn`. One turn: three addresses go one level on.
use Rattle.sail_step.proofs.Words.{turned-is}
use Rattle.sail_step.proofs.turn.turn.Goals as goal

pub returns : goal.returns
returns c = turned-is _ _ _ _ _ _ _ _ c.read_first.ensures c.read_second.ensures c.read_third.ensures
