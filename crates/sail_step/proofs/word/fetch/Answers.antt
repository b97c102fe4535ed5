-- `sail_step::word::fetch`: the place lies in the pool, since the chunk is one of the pool's.
use Rattle.std.proofs.Common.{ℕ, get_or, ap, arith}
use Rattle.sail.proofs.Steps.{chunk-numbered, place_in}
use Rattle.sail_step.proofs.Words.{chunk_of}
use Rattle.sail_step.proofs.word.fetch.Goals as goal

pub overflow_add-c : goal.overflow_add-c
overflow_add-c c = omega (arith, c.requires.1, c.requires.0.few)

pub cell_place-at-requires : goal.cell_place-at-requires
cell_place-at-requires c = chunk-numbered _ _ _ _ (chunk_of _ _ _ _ c.requires.0 c.requires.1)

pub offset_bounds-pool-at : goal.offset_bounds-pool-at
offset_bounds-pool-at c =
    omega (arith, c.cell_place-at.ensures.0, place_in _ _ _ _ c.args.i (chunk_of _ _ _ _ c.requires.0 c.requires.1))

pub bounds-pool-at : goal.bounds-pool-at
bounds-pool-at c =
    omega (arith, c.cell_place-at.ensures.0, place_in _ _ _ _ c.args.i (chunk_of _ _ _ _ c.requires.0 c.requires.1))

pub returns : goal.returns
returns c = ap (λ (j : ℕ). get_or c.args.pool.now j 0) c.cell_place-at.ensures.0
