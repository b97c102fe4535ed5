-- `pair_lookup::foreign`. Whether a chunk is the other's.
use Rattle.pair_lookup.proofs.Looks.{nobodys, firsts, seconds}
use Rattle.pair_lookup.proofs.foreign.Goals as goal

pub returns-then-o-eq0 : goal.returns-then-o-eq0
returns-then-o-eq0 c = search nobodys

pub returns-then-guest : goal.returns-then-guest
returns-then-guest c = search firsts

pub returns : goal.returns
returns c = search seconds
