-- `routes::input::hop_ok`. Whether a hop is 1 to 32,767.
use Rattle.routes.proofs.Faults.{hop-zero, hop-tested}
use Rattle.routes.proofs.input.hop_ok.Goals as goal

pub returns-then-hop-eq0 : goal.returns-then-hop-eq0
returns-then-hop-eq0 c = search hop-zero

pub returns : goal.returns
returns c = search hop-tested
