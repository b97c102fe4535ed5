-- `sail_sound::report::in_use`: so many of the owners that were passed are in use.
use Rattle.std.specs.Prelude.{◌≡◌, ◌≤◌}
use Rattle.sail_sound.proofs.Reports.{used_to}
use Rattle.sail_sound.proofs.report.in_use.Given as goal

abbrev pub invariant-loop-o : goal.invariant-loop-o
invariant-loop-o l = (l.n ≤ l.o-index) × (l.n ≡ used_to l.own l.o-index)
