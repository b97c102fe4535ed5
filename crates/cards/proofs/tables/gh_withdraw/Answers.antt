-- `cards::tables::gh_withdraw`: its length is narrowed, which changes nothing that the call says or leaves.
use Rattle.cards.proofs.Laws.{withdraw-card}
use Rattle.cards.proofs.tables.gh_withdraw.Goals as goal

pub returns : goal.returns
returns c = withdraw-card _ _ _ _ _ c.narrow8.ensures _ _ _ _ c.withdraw-c.ensures c.withdrawn.ensures
