-- The statement of `longest`, as a predicate on what was given and what is answered (r). It is the call's `ensures`, and that it leaves one answer is
-- shown of it in proofs/OneAnswer.antt.
use Rattle.std.specs.Prelude.{List, ◌≡◌, ℕ, Option, Result}
use Rattle.routes.specs.Answers.{means_got}
use Rattle.routes.specs.declared.Route.{Route}
use Rattle.refusals.specs.declared.Refused.{Refused}
use Rattle.longest.specs.Said.{longest_said}

abbrev pub MeetsLongest : List ℕ → ℕ → Result (Option Route) Refused → Type 0
MeetsLongest bytes addr r = means_got r ≡ longest_said bytes addr
