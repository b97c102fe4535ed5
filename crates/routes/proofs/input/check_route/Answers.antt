-- `routes::input::check_route`: each way through the tests has its law.
use Rattle.routes.proofs.Faults.{bad_prefix, bad_hop, bad-mark, no-fault}
use Rattle.routes.proofs.input.check_route.Goals as goal

pub returns-then-not-prefix_ok : goal.returns-then-not-prefix_ok
returns-then-not-prefix_ok c = search bad_prefix

pub returns-then-not-hop_ok : goal.returns-then-not-hop_ok
returns-then-not-hop_ok c = search bad_hop

pub returns-then-r-gt1 : goal.returns-then-r-gt1
returns-then-r-gt1 c = search bad-mark

pub returns : goal.returns
returns c = search no-fault
