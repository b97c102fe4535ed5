-- `sail_counts::tick::tick`. The place of the second level is known before the counts of the first change.
use native.Mathlib.Omega.{arith}
use Rattle.sail_counts.proofs.Steps.{first-named, ticks-one, ticks-two, moved}
use Rattle.sail_counts.proofs.tick.tick.Goals as goal

-- the places: `start`; `one` where the first cell's place is known, `cell` where the cell is, and `two` where the second's place is
pub second_place-q-requires : goal.second_place-q-requires
second_place-q-requires c = first-named _ _ _ _ _ _ _ _ c.slot-i.ensures c.requires _ c.from.ensures (omega (arith, c.type_inv.first c.slot-i.result))

pub tick_at-one-requires : goal.tick_at-one-requires
tick_at-one-requires c =
    ticks-one _ _ _ _ _ _ _ _ _ _ _ c.from-l.ensures c.slot-i.ensures c.from.ensures
    c.second_place-q.ensures.0 c.requires

pub tick_at-two-requires : goal.tick_at-two-requires
tick_at-two-requires c =
    ticks-two _ _ _ _ _ _ _ _ _ _ _ c.from-l.ensures c.slot-i.ensures c.from.ensures
    c.second_place-q.ensures.0 c.requires

pub returns : goal.returns
returns c =
    moved _ _ _ _ _ _ _ _ _ _ _ c.from-l.ensures c.slot-i.ensures c.from.ensures
    c.second_place-q.ensures.0 _ _ _ _ c.tick_at-one.ensures c.tick_at-two.ensures
