-- `sail_counts::tick::tick_at`. A step at place q of a level's counts, where the route is longer than the level.
use borrow.Author.Rules.{rules}
use Rattle.sail_counts.proofs.Steps.{tick-on, tick-off}
use Rattle.sail_counts.proofs.tick.tick_at.Goals as goal

pub offset_bounds-counts-q : goal.offset_bounds-counts-q
offset_bounds-counts-q c = let l = c.requires.inside c.if-longer.true in search rules

pub bounds-counts-q : goal.bounds-counts-q
bounds-counts-q c = c.requires.inside c.if-longer.true

pub stepped-n-requires : goal.stepped-n-requires
stepped-n-requires c = c.requires.steps c.if-longer.true

pub offset_bounds-counts-q-then-longer : goal.offset_bounds-counts-q-then-longer
offset_bounds-counts-q-then-longer c = let l = c.requires.inside c.if-longer.true in search rules

pub bounds-counts-q-then-longer : goal.bounds-counts-q-then-longer
bounds-counts-q-then-longer c = c.requires.inside c.if-longer.true

pub returns-then-longer : goal.returns-then-longer
returns-then-longer c = tick-on _ _ _ _ _ c.if-longer.true c.stepped-n.ensures

pub returns : goal.returns
returns c = tick-off _ _ _ _ c.if-longer.false
