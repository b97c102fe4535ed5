-- `sail_many::flow::finish`. After the last turn: those that are left are brought to the end.
use Rattle.sail_many.proofs.Flows.{flows-end}
use Rattle.sail_many.proofs.flow.finish.Goals as goal

pub returns : goal.returns
returns c = search flows-end
