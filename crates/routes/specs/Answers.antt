-- What each case of an answer says, and what it is for the routes of a list to be read back.
use Rattle.std.specs.Prelude.{ℕ, ◌/◌, ◌≤◌, ◌<◌, cond, ◌≡◌, ltb, length, get_or, Option, Some, None, Result}
use mathlib.Core.List.{List, [], ◌∷◌, Memᴰ}
use Rattle.routes.specs.Record.{record_at, no_route}
use Rattle.routes.specs.Input.{input_said}
use Rattle.routes.specs.Said.{Said, accepted, and_then, said_by, said_plainly}
use Rattle.routes.specs.declared.Route.{Route}
use Rattle.routes.specs.declared.found.Found.{Found}
use Rattle.refusals.specs.declared.Refusal.{Refusal}
use Rattle.refusals.specs.declared.Refused.{Refused}

-- a good input tells its number of records
abbrev pub means_input : Result ℕ Refused → Said
means_input = said_by (λ n. n ∷ [])

-- a route's values: address, length, mark, hop
abbrev pub values_of : Route → List ℕ
values_of r = r.addr ∷ r.len ∷ r.mark ∷ r.hop ∷ []

-- no values where there is no such route
abbrev pub if_there : Option Route → List ℕ
if_there None = []
if_there (Some r) = values_of r

abbrev pub means_got : Result (Option Route) Refused → Said
means_got = said_by if_there

-- so many reads, and the hop if there is one
abbrev pub reads_and : ℕ → Option ℕ → List ℕ
reads_and n None = n ∷ []
reads_and n (Some h) = n ∷ h ∷ []

abbrev pub found_values : Found → List ℕ
found_values f = reads_and f.reads f.hop

abbrev pub means_found : Result Found Refusal → Said
means_found = said_plainly found_values

-- the input's refusals first; then the record of that index, if there is one
unfoldable pub route_said : List ℕ → ℕ → Said
route_said s k = and_then (input_said s) (accepted (cond (ltb k (length s / 8)) (values_of (record_at s k)) []))

-- route_at reads out of these bytes each of the routes rs, at its place, with its mark and hop, and nothing past the last
pub record ReadBack (bytes : List ℕ) (rs : List Route) : Type 0 where
  pub each : (r : Route) → Memᴰ r rs → (k : ℕ) × (k < length rs) × (route_said bytes k ≡ accepted (values_of r))
  pub in_order : (k : ℕ) → k < length rs → route_said bytes k ≡ accepted (values_of (get_or rs k no_route))
  pub no_more : (k : ℕ) → length rs ≤ k → route_said bytes k ≡ accepted []
