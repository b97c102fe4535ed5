-- `pair_load::side::close_all`. The invariant: of the chunks passed those that are in use among `see` are closed, and all else is as it was.
use Prim.Native.Nat.{◌-◌, ◌≤◌}
use lib.ListN.{length}
use Rattle.pair_load.proofs.Closes.{Closed}
use Rattle.pair_load.proofs.side.close_all.Given as goal

abbrev pub invariant-loop-c : goal.invariant-loop-c
invariant-loop-c l = Closed l.see l.initial.own l.initial.cells l.d l.c l.own l.cells
