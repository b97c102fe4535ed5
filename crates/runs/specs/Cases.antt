-- What `run_check` can say, case by case and in order, each with all that then holds.
use Rattle.std.specs.Prelude.{List, [], ◌∷◌, ℕ}
use Rattle.routes.specs.Route.{Prefix}
use Rattle.routes.specs.Cases.{BadInput, Passes}
use Rattle.routes.specs.Said.{Said, accepted, refused}
use Rattle.runs.specs.Run.{run_start, run_count}

-- the input's, then 3
pub data RunChecked (s : List ℕ) (a len : ℕ) : Said → Type 0 where
  bad_input : (x : Said) → BadInput s x → RunChecked s a len x
  bad_prefix : (n : ℕ) → Passes s n → (Prefix a len → ⊥) → RunChecked s a len (refused 3)
  found : (n : ℕ) → Passes s n → Prefix a len → RunChecked s a len (accepted (run_start s a len ∷ run_count s a len ∷ []))
