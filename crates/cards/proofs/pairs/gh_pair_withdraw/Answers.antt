-- `cards::pairs::gh_pair_withdraw`: its length is narrowed, which changes nothing that the call returns or leaves.
use Rattle.cards.proofs.PairLaws.{pair-withdraw-card}
use Rattle.cards.proofs.pairs.gh_pair_withdraw.Goals as goal

pub returns : goal.returns
returns c =
    pair-withdraw-card _ _ c.state.ensures _ _ _ c.is_second-guest.ensures _ _ _ _ _ c.count-n.ensures c.withdrawn.ensures _ _ _
    c.narrow8.ensures c.withdraw-c.ensures
