-- What is said of an address: the longest route of an input that covers it.
use Rattle.std.specs.Prelude.{List, [], ℕ}
use Rattle.routes.specs.Answers.{values_of}
use Rattle.routes.specs.Input.{input_said}
use Rattle.routes.specs.Record.{routes_in}
use Rattle.routes.specs.Said.{Said, accepted, and_then}
use Rattle.standing.specs.Standing.{Held, absent, stood}
use Rattle.longest.specs.Best.{best_route}

-- a route's values, and none where there is no route
abbrev pub values_held : Held → List ℕ
values_held absent = []
values_held (stood r) = values_of r

-- the input's refusals first; then the longest route that covers the address, if there is one
unfoldable pub longest_said : List ℕ → ℕ → Said
longest_said s a = and_then (input_said s) (accepted (values_held (best_route (routes_in s) a)))
