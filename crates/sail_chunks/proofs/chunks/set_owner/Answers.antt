-- `sail_chunks::chunks::set_owner`. Chunk c gets the owner o, where it is to be opened.
use native.Mathlib.Omega.{arith}
use mathlib.Core.Path.{refl}
use Rattle.sail_chunks.proofs.ChunkOwners.{hang-on, hang-off}
use Rattle.sail_chunks.proofs.chunks.set_owner.Goals as goal

pub offset_bounds-own-c : goal.offset_bounds-own-c
offset_bounds-own-c c = omega (arith, c.requires.some c.if-opens.true)

pub bounds-own-c : goal.bounds-own-c
bounds-own-c c = omega (arith, c.requires.some c.if-opens.true)

pub returns-then-opens : goal.returns-then-opens
returns-then-opens c = hang-on _ _ _ _ _ c.if-opens.true refl

pub returns-else-opens : goal.returns-else-opens
returns-else-opens c = hang-off _ _ _ _ c.if-opens.false
