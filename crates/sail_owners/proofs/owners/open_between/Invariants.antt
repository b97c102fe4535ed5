-- `sail_owners::owners::open_between`. The invariant: the owners are those of announcing the records passed, in order.
use Rattle.sail_owners.proofs.Passes.{OwnersPassed}
use Rattle.sail_owners.proofs.owners.open_between.Given as goal

abbrev pub invariant-loop-k : goal.invariant-loop-k
invariant-loop-k l = OwnersPassed l.top l.g l.input l.initial.own2 l.initial.own3 l.k l.own2 l.own3 l.u
