-- `sail_many::pass::read_thirds`: the words so far went one step on.
use Rattle.sail_many.proofs.Flows.{Sweeping}
use Rattle.sail_step.specs.Words.{step3}
use Rattle.sail_many.proofs.pass.read_thirds.Given as goal

abbrev pub invariant-loop-i : goal.invariant-loop-i
invariant-loop-i l = Sweeping (step3 l.p2 l.third l.chunks l.addrs) l.from l.to l.addrs l.initial.out l.out l.i
