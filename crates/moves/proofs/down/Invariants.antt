-- The invariant: those before `at` are moved.
use Rattle.moves.proofs.Draws.{MovingDown}
use Rattle.moves.proofs.down.Given as goal

abbrev pub invariant-loop-at : goal.invariant-loop-at
invariant-loop-at g l = MovingDown g.T.Number.ZERO l.initial.numbers l.a l.e l.step l.numbers l.at
