-- A directed broadcast in the request's words, and what the call says of it, in order: what a reader holds against document 02.
use Rattle.std.specs.Prelude.{true, false, List, [], ◌∷◌, ◌⊎◌, ◌≡◌, ℕ, ◌≤◌}
use Rattle.longest.specs.Best.{LongestRoute}
use Rattle.routes.specs.Input.{input_said}
use Rattle.routes.specs.Record.{GoodInput, routes_in}
use Rattle.routes.specs.Said.{Said, accepted, refused, accepts}
use Rattle.routes.specs.declared.Route.{Route}
use Rattle.standing.specs.Cells.{covers}

-- "version 1 the older, 2 the newer": the lengths of the routes that have a broadcast
pub data Rule : ℕ → ℕ → Type 0 where
  older : (l : ℕ) → l ≤ 31 → Rule 1 l
  newer : (l : ℕ) → l ≤ 30 → Rule 2 l

-- h is the highest address that the route covers
pub record Highest (r : Route) (h : ℕ) : Type 0 where
  pub covered : covers 32 h r ≡ true
  pub last : (b : ℕ) → covers 32 b r ≡ true → b ≤ h

-- "the longest route covering it is attached", and the address is the route's highest
pub record LastOf (rs : List Route) (a : ℕ) (r : Route) : Type 0 where
  pub longest : LongestRoute rs a r
  pub attached : r.mark ≡ 1
  pub highest : Highest r a

-- the address is a directed broadcast under the rule of version v
pub record Broadcast (v : ℕ) (rs : List Route) (a : ℕ) : Type 0 where
  pub route : Route
  pub ends : LastOf rs a route
  pub within : Rule v route.len

-- the address is the upper one of an attached link of two addresses
pub record UpperOfTwo (rs : List Route) (a : ℕ) : Type 0 where
  pub route : Route
  pub ends : LastOf rs a route
  pub two : route.len ≡ 31

-- "Refusals: 23, version neither 1 nor 2; the record input's come after it"; then 1 for a broadcast, and 0 for none
pub data Casting (v : ℕ) (s : List ℕ) (a : ℕ) : Said → Type 0 where
  bad_version : (v ≡ 1 → ⊥) → (v ≡ 2 → ⊥) → Casting v s a (refused 23)
  bad_input : (v ≡ 1) ⊎ (v ≡ 2) → accepts (input_said s) ≡ false → Casting v s a (input_said s)
  is_one : (n : ℕ) → GoodInput s n → Broadcast v (routes_in s) a → Casting v s a (accepted (1 ∷ []))
  is_none : (v ≡ 1) ⊎ (v ≡ 2) → (n : ℕ) → GoodInput s n → (Broadcast v (routes_in s) a → ⊥) → Casting v s a (accepted (0 ∷ []))
