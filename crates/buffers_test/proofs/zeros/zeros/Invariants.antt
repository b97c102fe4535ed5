-- The invariant: the answer tells of the range up to j.
use Rattle.buffers_test.proofs.Blanks.{Looking}
use Rattle.buffers_test.proofs.zeros.zeros.Given as goal

abbrev pub invariant-loop-j : goal.invariant-loop-j
invariant-loop-j g l = Looking g.T.Number.ZERO l.numbers l.from l.to l.all l.j
