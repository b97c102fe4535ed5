-- `sail_many::flow::begin`. Before the first turn: sixteen addresses enter, and eight of them go down.
use Rattle.sail_many.proofs.Flows.{flows-begin}
use Rattle.sail_many.proofs.flow.begin.Goals as goal

pub returns : goal.returns
returns c = search flows-begin
