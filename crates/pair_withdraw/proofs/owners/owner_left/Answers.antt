-- `pair_withdraw::owners::owner_left`. The owner stays exactly where what the party saw in it is what it sees now.
use Rattle.pair_withdraw.proofs.Shuts.{stays-seen, shut-unseen}
use Rattle.pair_withdraw.proofs.owners.owner_left.Goals as goal

pub returns-then-seen-s : goal.returns-then-seen-s
returns-then-seen-s c = stays-seen _ _ _ _ c.seen.ensures c.if-seen-s.true

pub returns : goal.returns
returns c = shut-unseen _ _ _ _ c.seen.ensures c.if-seen-s.false
