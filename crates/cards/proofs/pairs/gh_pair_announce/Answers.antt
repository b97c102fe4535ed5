-- `cards::pairs::gh_pair_announce`: its length, its hop and its mark are narrowed, which changes nothing that the call returns or leaves.
use Rattle.cards.proofs.PairLaws.{pair-announce-card}
use Rattle.cards.proofs.pairs.gh_pair_announce.Goals as goal

pub returns : goal.returns
returns c =
    pair-announce-card _ _ c.state.ensures _ _ _ c.is_second-guest.ensures _ _ _ _ _ c.count-n.ensures c.announced.ensures _ _ _ _ _ _ _
    c.narrow8.ensures c.narrow16.ensures c.narrow8-2.ensures c.announce-c.ensures
