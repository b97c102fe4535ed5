-- `cards::pairs::is_second`. Any number but 0 is the second party.
use Rattle.cards.proofs.PairLaws.{party-is}
use Rattle.cards.proofs.pairs.is_second.Goals as goal

pub returns : goal.returns
returns c = party-is _
