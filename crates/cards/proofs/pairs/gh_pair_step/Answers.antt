-- `cards::pairs::gh_pair_step`. The party's step is the answer, and leaves the packet.
use Rattle.cards.proofs.PairLaws.{pair-step-card}
use Rattle.cards.proofs.pairs.gh_pair_step.Goals as goal

pub returns : goal.returns
returns c = pair-step-card _ _ c.state.ensures _ _ _ c.is_second.ensures _ _ _ c.step.ensures
