-- `fields::check::check_field`. The invariant: what is left is broken exactly where the whole field is.
use mathlib.Core.Path.{◌≡◌}
use Prim.Native.Nat.{◌-◌, ◌≤◌}
use lib.ListN.{length, drop}
use Rattle.fields.specs.Field.{broken}
use Rattle.fields.proofs.check.check_field.Given as goal

abbrev pub invariant-loop-at : goal.invariant-loop-at
invariant-loop-at l = (l.at ≤ length l.field) × (l.n ≡ length l.field) × (broken (drop l.at l.field) ≡ broken l.field)

abbrev pub decreases-loop-at : goal.decreases-loop-at
decreases-loop-at l = l.n - l.at
