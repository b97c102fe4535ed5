-- `cards::tables::gh_announce`: its length, its hop and its mark are narrowed, which changes nothing that the call says or leaves.
use Rattle.cards.proofs.Laws.{announce-card}
use Rattle.cards.proofs.tables.gh_announce.Goals as goal

pub returns : goal.returns
returns c =
    announce-card _ _ _ _ _ c.narrow8.ensures _ _ _ _ _ _ c.narrow16.ensures _ _ c.narrow8-2.ensures c.announce-c.ensures
    c.announced.ensures
