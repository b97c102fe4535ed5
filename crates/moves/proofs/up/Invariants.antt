-- The invariant: those from `at` on are moved.
use Rattle.moves.proofs.Draws.{MovingUp}
use Rattle.moves.proofs.up.Given as goal

abbrev pub invariant-loop-at : goal.invariant-loop-at
invariant-loop-at g l = MovingUp g.T.Number.ZERO l.initial.numbers l.a l.e l.step l.numbers l.at
