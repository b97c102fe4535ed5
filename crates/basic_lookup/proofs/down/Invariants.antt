-- The invariant: the levels from `l` on say nothing.
use Rattle.std.specs.Prelude.{◌≡◌}
use Rattle.standing.specs.Down.{down}
use Rattle.basic.specs.Walk.{mapped}
use Rattle.basic_lookup.proofs.down.Given as goal

abbrev pub invariant-loop-l : goal.invariant-loop-l
invariant-loop-l l = down (mapped l.bits l.cells l.addr) 17 ≡ down (mapped l.bits l.cells l.addr) l.l
