-- A list of records, as its test goes through it, record by record.
use Rattle.std.specs.Prelude.{◌≡◌, List, ℕ, ◌<◌}
use Rattle.routes.specs.Input.{fault_at}

-- nothing is wrong with the first n records
pub record NoFaults (s : List ℕ) (n : ℕ) : Type 0 where
  pub each : (k : ℕ) → k < n → fault_at s k ≡ 0
