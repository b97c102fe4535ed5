-- `cards::pairs::gh_pair_lookup`. The word of the walk is the answer.
use Rattle.cards.proofs.PairLaws.{pair-lookup-card}
use Rattle.cards.proofs.pairs.gh_pair_lookup.Goals as goal

pub returns : goal.returns
returns c = pair-lookup-card _ _ c.state.ensures _ _ _ c.is_second.ensures _ _ c.look.ensures
