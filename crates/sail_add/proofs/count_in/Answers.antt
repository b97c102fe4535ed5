-- `sail_add::count_in`: one step where the route is added, and none where it is not.
use mathlib.Core.Path.{refl}
use Rattle.sail_add.specs.Booked.{more, same}
use Rattle.sail_add.proofs.count_in.Goals as goal

pub tick-requires : goal.tick-requires
tick-requires c = c.requires.ticks c.if-added.true

pub returns-then-added : goal.returns-then-added
returns-then-added c = more c.if-added.true _ c.tick.ensures

pub returns-else-added : goal.returns-else-added
returns-else-added c = same c.if-added.false refl refl
