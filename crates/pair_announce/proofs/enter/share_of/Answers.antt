-- `pair_announce::enter::share_of`. The second party's share where the flag says so, else the first's.
use Rattle.pair_state.proofs.Guests.{guest-two, guest-one}
use Rattle.pair_announce.proofs.enter.share_of.Goals as goal

pub returns-then-guest : goal.returns-then-guest
returns-then-guest c = rw (guest-two _ c.if-guest.true)

pub returns : goal.returns
returns c = rw (guest-one _ c.if-guest.false)
