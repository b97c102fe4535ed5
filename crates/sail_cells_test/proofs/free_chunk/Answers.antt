-- A chunk in use passes unread; the cells of a free one are looked at.
use Rattle.sail_cells_test.proofs.Chunks.{used-free, free-room, free-zero}
use Rattle.sail_cells_test.proofs.free_chunk.Goals as goal

pub returns-then-own-c-ne0 : goal.returns-then-own-c-ne0
returns-then-own-c-ne0 c = search used-free

pub zeros-requires : goal.zeros-requires
zeros-requires c = search free-room

pub returns : goal.returns
returns c = search free-zero
