-- Two outcomes that the statement of a build allows are the same: its answer, the bits and the cells.
use mathlib.Core.Path.{◌≡◌, sym, ◌∙◌, ap}
use mathlib.Core.List.{List}
use Prim.Native.Nat.{ℕ}
use Rattle.std.specs.Prelude.{Result}
use Rattle.refusals.specs.declared.Refused.{Refused}
use Rattle.basic.proofs.Injective.{basic-answer-injective}
use Rattle.basic_build.specs.Built.{MapsOut}
use Rattle.basic_build.specs.Contract.{MeetsBasicBuild}

pub one-answer-basic-build : (input bits cells : List ℕ) (x y : Result (Unit {0}) Refused) (bs bs' cs cs' : List ℕ)
    → MeetsBasicBuild input bits cells x bs cs → MeetsBasicBuild input bits cells y bs' cs' → (x ≡ y) × (bs ≡ bs') × (cs ≡ cs')
one-answer-basic-build input bits cells x y bs bs' cs cs' p q =
    let e = p ∙ sym q in
    (basic-answer-injective x y (ap (λ (u : MapsOut). u.said) e), ap (λ (u : MapsOut). u.bits) e, ap (λ (u : MapsOut). u.cells) e)
