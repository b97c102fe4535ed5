-- `sail_many::pass::read_seconds`: the words so far went one step on.
use Rattle.sail_many.proofs.Flows.{Sweeping}
use Rattle.sail_step.specs.Words.{step2}
use Rattle.sail_many.proofs.pass.read_seconds.Given as goal

abbrev pub invariant-loop-i : goal.invariant-loop-i
invariant-loop-i l = Sweeping (step2 l.p1 l.p2 l.second l.chunks l.addrs) l.from l.to l.addrs l.initial.out l.out l.i
