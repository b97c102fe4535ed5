-- `repair_levels::off_names`. The invariant: `m` of the chunks before `c` hang from a cell that holds another number.
use Prim.Native.Nat.{◌-◌}
use lib.ListN.{length}
use Rattle.sail.specs.Level.{entry}
use Rattle.repair_levels.specs.Levels.{off_name}
use Rattle.repair_leaves.proofs.Counts.{Counting}
use Rattle.repair_levels.proofs.off_names.Given as goal

abbrev pub invariant-loop-c : goal.invariant-loop-c
invariant-loop-c l = Counting (off_name (entry l.own) (entry l.cells)) (length l.own) l.m l.c
