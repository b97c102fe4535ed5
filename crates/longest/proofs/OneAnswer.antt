-- Two answers that the statement of `longest` allows are the same.
use Rattle.std.specs.Prelude.{◌≡◌, ℕ, List, Option, Result}
use Rattle.std.proofs.Common.{sym, ◌∙◌}
use Rattle.refusals.specs.declared.Refused.{Refused}
use Rattle.routes.specs.declared.Route.{Route}
use Rattle.routes.proofs.OneAnswer.{got-injective}
use Rattle.longest.specs.Contract.{MeetsLongest}

pub one-answer-longest : (bytes : List ℕ) (addr : ℕ) (x y : Result (Option Route) Refused)
    → MeetsLongest bytes addr x → MeetsLongest bytes addr y → x ≡ y
one-answer-longest bytes addr x y p q = got-injective x y (p ∙ sym q)
