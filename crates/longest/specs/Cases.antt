-- What `longest` can say, case by case and in order, each case with all that then holds: the input's refusals; a route of the input that covers the
-- address, than which none that covers it is longer; or nothing, and no route covers it. (`longest-judged`, `longest-only`)
use Rattle.std.specs.Prelude.{false, ◌≡◌, ℕ}
use mathlib.Core.List.{List, [], Memᴰ}
use Rattle.routes.specs.Answers.{values_of}
use Rattle.routes.specs.Cases.{BadInput, Passes}
use Rattle.routes.specs.Record.{routes_in}
use Rattle.routes.specs.Said.{Said, accepted}
use Rattle.routes.specs.declared.Route.{Route}
use Rattle.standing.specs.Cells.{covers}
use Rattle.longest.specs.Best.{LongestRoute}

pub data LongestRead (s : List ℕ) (a : ℕ) : Said → Type 0 where
  bad_input : (x : Said) → BadInput s x → LongestRead s a x
  covered : (n : ℕ) → Passes s n → (r : Route) → LongestRoute (routes_in s) a r → LongestRead s a (accepted (values_of r))
  uncovered : (n : ℕ) → Passes s n → ((r : Route) → Memᴰ r (routes_in s) → covers 32 a r ≡ false) → LongestRead s a (accepted [])
