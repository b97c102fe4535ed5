-- `pair_announce::enter::tag`. One store, where the chunk was opened.
use native.Mathlib.Omega.{arith}
use Rattle.pair_announce.proofs.TagLaws.{tagged-on, tagged-off}
use Rattle.pair_announce.proofs.enter.tag.Goals as goal

pub offset_bounds-see-c : goal.offset_bounds-see-c
offset_bounds-see-c c = omega (arith, c.requires.seen c.if-opens.true)

-- c is a chunk of what the party sees, and of the owners
pub bounds-see-c : goal.bounds-see-c
bounds-see-c c = omega (arith, c.requires.seen c.if-opens.true)

pub owner-requires : goal.owner-requires
owner-requires c = c.requires.mine c.if-opens.true

pub offset_bounds-own-c : goal.offset_bounds-own-c
offset_bounds-own-c c = omega (arith, c.requires.there c.if-opens.true)

pub bounds-own-c : goal.bounds-own-c
bounds-own-c c = omega (arith, c.requires.there c.if-opens.true)

pub returns-then-opens : goal.returns-then-opens
returns-then-opens c = tagged-on _ _ _ _ _ _ c.if-opens.true c.owner.ensures

pub returns-else-opens : goal.returns-else-opens
returns-else-opens c = tagged-off _ _ _ _ _ c.if-opens.false
