-- What a program holds that passes over the list once.
use Rattle.std.specs.Prelude.{cond, List, ℕ, zero, suc}
use Rattle.routes.specs.Route.{key}
use Rattle.routes.specs.Record.{record_at}
use Rattle.repair_theory.specs.Repair.{keeps}

-- the least key that may be kept after d records from k on, where before them it was `least`
unfoldable pub least_from : List ℕ → ℕ → ℕ → ℕ → ℕ
least_from s least k zero = least
least_from s least k (suc d) =
    cond (keeps s least k)
    (least_from s (suc (key (record_at s k))) (suc k) d)
    (least_from s least (suc k) d)
