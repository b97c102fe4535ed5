-- `sail_paint::place::stands_for`: a place by itself, or the place in its chunk's owner.
use native.Mathlib.Omega.{arith}
use Rattle.sail_paint.proofs.Places.{stands-itself, owner-numbered, stands-is}
use Rattle.sail_paint.proofs.place.stands_for.Goals as goal

pub returns-then-e-eq0 : goal.returns-then-e-eq0
returns-then-e-eq0 c = stands-itself _ _ _ c.if-e-eq0.true

pub owner_at-requires : goal.owner_at-requires
owner_at-requires c = c.requires.chunk (omega arith)

pub cell_place-requires : goal.cell_place-requires
cell_place-requires c = owner-numbered _ _ _ _ c.if-e-eq0.false c.owner_at.ensures c.requires

pub returns : goal.returns
returns c = stands-is _ _ _ _ c.if-e-eq0.false c.owner_at.ensures _ c.cell_place.ensures.0
