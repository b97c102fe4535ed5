-- The bit at the place says whether the cell at the same place counts.
use Rattle.basic.proofs.Places.{mapped-set, mapped-clear}
use Rattle.basic.proofs.maps.mapped.Goals as goal

pub returns-then-is_set : goal.returns-then-is_set
returns-then-is_set c = mapped-set _ _ _ _ _ _ c.map_place-i.ensures.0 c.is_set.ensures c.if-is_set.true

pub returns-else-is_set : goal.returns-else-is_set
returns-else-is_set c = mapped-clear _ c.args.cells.now _ _ _ _ c.map_place-i.ensures.0 c.is_set.ensures c.if-is_set.false
