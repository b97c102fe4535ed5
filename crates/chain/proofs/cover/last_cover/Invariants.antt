-- `chain::cover::last_cover`: The invariant: only words before m are left. The measure is m.
use Rattle.chain.proofs.Chains.{LeftBelow}
use Rattle.chain.proofs.cover.last_cover.Given as goal

abbrev pub invariant-loop-m : goal.invariant-loop-m
invariant-loop-m l = LeftBelow l.ws l.j l.p l.i l.m

abbrev pub decreases-loop-m : goal.decreases-loop-m
decreases-loop-m l = l.m
