-- `input_check::input::check_input`: The invariant: no record that was passed has a fault.
use mathlib.Core.Path.{◌≡◌}
use mathlib.Core.Bool.{false}
use Prim.Native.Nat.{ℕ, ◌<◌}
use Rattle.routes.specs.Input.{is_bad}
use Rattle.input_check.proofs.input.check_input.Given as goal

abbrev pub invariant-loop-k : goal.invariant-loop-k
invariant-loop-k l = (j : ℕ) → j < l.k → is_bad l.bytes j ≡ false
