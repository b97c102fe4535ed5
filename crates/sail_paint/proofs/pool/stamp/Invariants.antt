-- `sail_paint::pool::stamp`. The number of each chunk in use, from 1, into the cell that it hangs from.
use mathlib.Core.Path.{◌≡◌}
use Rattle.sail.specs.Level.{entry}
use Rattle.sail_paint.specs.Paint.{stamped_by}
use Rattle.sail_paint.proofs.pool.stamp.Given as goal

abbrev pub invariant-loop-c : goal.invariant-loop-c
invariant-loop-c l = l.cells ≡ stamped_by l.c (entry l.own) l.initial.cells
