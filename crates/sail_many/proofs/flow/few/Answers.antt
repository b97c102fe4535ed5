-- `sail_many::flow::few`. The answers level by level, for few addresses.
use Rattle.sail_many.proofs.Flows.{few-all}
use Rattle.sail_many.proofs.flow.few.Goals as goal

pub returns : goal.returns
returns c = search few-all
