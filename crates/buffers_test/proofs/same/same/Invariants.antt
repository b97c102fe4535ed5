-- The invariant: the answer tells of the elements before j.
use Rattle.buffers_test.proofs.Sames.{Agreeing}
use Rattle.buffers_test.proofs.same.same.Given as goal

abbrev pub invariant-loop-j : goal.invariant-loop-j
invariant-loop-j g l = Agreeing g.T.Number.ZERO l.numbers l.others l.same l.j
