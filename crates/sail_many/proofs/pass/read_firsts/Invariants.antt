-- `sail_many::pass::read_firsts`: the words so far went one step on.
use Rattle.sail_many.proofs.Flows.{Sweeping}
use Rattle.sail_step.specs.Words.{step1}
use Rattle.sail_many.proofs.pass.read_firsts.Given as goal

abbrev pub invariant-loop-i : goal.invariant-loop-i
invariant-loop-i l = Sweeping (λ k _. step1 l.p1 l.first l.addrs k) l.from l.to l.addrs l.initial.out l.out l.i
