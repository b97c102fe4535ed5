-- `sail_chunks::chunks::close`. Chunk c of a pool of chunks of 2^d cells, where it is to be closed: its owner and its cells become 0.
use native.Mathlib.Omega.{arith}
use mathlib.Core.Path.{refl}
use Rattle.sail_chunks.proofs.ChunkOwners.{close-range, close-on, close-off}
use Rattle.sail_chunks.proofs.chunks.close.Goals as goal

pub offset_bounds-own-c : goal.offset_bounds-own-c
offset_bounds-own-c c = let p = c.requires in omega (arith, p.one c.if-closes.true)

pub bounds-own-c : goal.bounds-own-c
bounds-own-c c = c.requires.one c.if-closes.true

pub shifted-a-requires : goal.shifted-a-requires
shifted-a-requires c = let p = c.requires in (omega (arith, p.one c.if-closes.true), omega arith)

pub fill_range-requires : goal.fill_range-requires
fill_range-requires c = close-range _ _ _ _ _ c.requires c.if-closes.true _ _ c.shifted-a.ensures.0 c.shifted-n.ensures.0

pub returns-then-closes : goal.returns-then-closes
returns-then-closes c =
    let all = close-on _ _ _ _ _ _ _ _ _ c.if-closes.true refl c.shifted-a.ensures.0 c.shifted-n.ensures.0 c.fill_range.ensures in record { owner = all.0; blank = all.1 }

pub returns-else-closes : goal.returns-else-closes
returns-else-closes c = let all = close-off _ _ _ _ _ c.if-closes.false in record { owner = all.0; blank = all.1 }
