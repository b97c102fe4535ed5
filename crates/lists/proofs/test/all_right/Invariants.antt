-- `lists::test::all_right`. The invariant: no record before k has a fault.
use Rattle.std.specs.Prelude.{◌≡◌, ℕ, ◌<◌}
use Rattle.routes.specs.Input.{fault_at}
use Rattle.lists.proofs.test.all_right.Given as goal

abbrev pub invariant-loop-k : goal.invariant-loop-k
invariant-loop-k l = (j : ℕ) → j < l.k → fault_at l.list j ≡ 0
