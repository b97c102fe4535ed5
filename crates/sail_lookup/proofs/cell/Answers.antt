-- `sail_lookup::cell`: the place lies in the pool, since the chunk is one of the pool's.
use Rattle.std.proofs.Common.{ℕ, get_or, ap, arith}
use Rattle.sail.proofs.Steps.{chunk-numbered, place_in}
use Rattle.sail_lookup.proofs.cell.Goals as goal

pub cell_place-at-requires : goal.cell_place-at-requires
cell_place-at-requires c = chunk-numbered _ _ _ _ c.requires

pub offset_bounds-pool-at : goal.offset_bounds-pool-at
offset_bounds-pool-at c = omega (arith, c.cell_place-at.ensures.0, place_in _ _ _ _ c.args.i c.requires)

pub bounds-pool-at : goal.bounds-pool-at
bounds-pool-at c = omega (arith, c.cell_place-at.ensures.0, place_in _ _ _ _ c.args.i c.requires)

pub returns : goal.returns
returns c = ap (λ (j : ℕ). get_or c.args.pool.now j 0) c.cell_place-at.ensures.0
