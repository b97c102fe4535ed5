-- `cards::lookups::gh_lookup`. The hop for one address, with the count of cells read.
use Rattle.cards.proofs.lookups.gh_lookup.Goals as goal

pub returns : goal.returns
returns c = c.look_quick.ensures.packs
