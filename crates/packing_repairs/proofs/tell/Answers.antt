-- `packing_repairs::tell`: four stores to four words, and none where the repair is refused.
use Rattle.repair.specs.Answers.{means_repaired}
use Rattle.packing_repairs.proofs.Putting.{four-set}
use Rattle.packing_repairs.proofs.tell.Goals as goal

pub returns-in_default : goal.returns-in_default
unfolding means_repaired
returns-in_default c = rw c.in_default.is

pub returns : goal.returns
unfolding means_repaired
returns c = rw c.in-Done.is (four-set c.args.out.now _ _ _ _ c.requires)
