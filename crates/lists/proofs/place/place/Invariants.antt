-- `lists::place::place`: The invariant: every record before `low` is smaller, and every one from `high` on is not.
use Prim.Native.Nat.{ℕ, ◌-◌, ◌≤◌, ◌<◌}
use Rattle.routes.specs.Route.{key}
use Rattle.routes.specs.Record.{record_at}
use Rattle.lists.proofs.place.place.Given as goal

abbrev pub invariant-loop-low : goal.invariant-loop-low
invariant-loop-low l =
    (l.low ≤ l.high) × (l.high ≤ l.n) × ((j : ℕ) → j < l.low → key (record_at l.list j) < l.k) × ((j : ℕ) → l.high ≤ j → j < l.n → l.k ≤ key (record_at l.list j))

abbrev pub decreases-loop-low : goal.decreases-loop-low
decreases-loop-low l = l.high - l.low
