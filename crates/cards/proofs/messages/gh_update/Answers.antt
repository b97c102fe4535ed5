-- `cards::messages::gh_update`: its hop is narrowed, which changes nothing that the call says or leaves.
use Rattle.cards.proofs.RouteFields.{update-card}
use Rattle.cards.proofs.messages.gh_update.Goals as goal

pub returns : goal.returns
returns c = update-card _ _ _ _ _ _ c.narrow16.ensures _ _ _ _ c.update-c.ensures c.updated.ensures
