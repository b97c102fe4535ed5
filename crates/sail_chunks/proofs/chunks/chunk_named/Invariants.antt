-- `sail_chunks::chunks::chunk_named`. The first chunk whose owner is o, counted from 0; as many as there are where none has it.
use Rattle.sail_chunks.proofs.ChunkOwners.{Others}
use Rattle.sail_chunks.proofs.chunks.chunk_named.Given as goal

abbrev pub invariant-loop-c : goal.invariant-loop-c
invariant-loop-c l = Others l.own l.o l.c
