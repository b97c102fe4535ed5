-- The invariant: the first i bytes are those of the source.
use Rattle.buffers.proofs.Copies.{Copying}
use Rattle.buffers.proofs.fill.put.Given as goal

abbrev pub invariant-loop-i : goal.invariant-loop-i
invariant-loop-i l = Copying l.initial.out l.source l.n l.out l.i
