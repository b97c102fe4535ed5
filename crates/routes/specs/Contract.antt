-- The statements of the calls on offer, as predicates on what was given and what is answered. Each is its call's `ensures`, and that it leaves
-- one answer is shown of it in proofs/OneAnswer.antt.
use Rattle.std.specs.Prelude.{List, ◌≡◌, ℕ, Option, Result}
use Rattle.routes.specs.Input.{input_said}
use Rattle.routes.specs.Answers.{means_input, means_got, route_said}
use Rattle.routes.specs.declared.Route.{Route}
use Rattle.refusals.specs.declared.Refused.{Refused}

abbrev pub MeetsCheckInput : List ℕ → Result ℕ Refused → Type 0
MeetsCheckInput bytes r = means_input r ≡ input_said bytes

abbrev pub MeetsRouteAt : List ℕ → ℕ → Result (Option Route) Refused → Type 0
MeetsRouteAt bytes index r = means_got r ≡ route_said bytes index
