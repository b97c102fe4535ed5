use native.Mathlib.Omega.{arith}
use Rattle.tree_formed.proofs.Steps.{fine-none, fine_more, fine-all}
use Rattle.tree_check.proofs.hops_fine.Goals as goal

pub loop-j-init : goal.loop-j-init
loop-j-init c = (omega arith, fine-none _)

pub loop-j-preserved : goal.loop-j-preserved
loop-j-preserved c = (omega arith, search fine_more)

pub returns : goal.returns
returns c = search fine-all
