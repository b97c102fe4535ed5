-- Two answers that the statement of a call allows are the same.
use mathlib.Core.Path.{◌≡◌, sym, ◌∙◌}
use mathlib.Core.List.{List}
use Prim.Native.Nat.{ℕ}
use denote.Ref.{Bor}
use Rattle.routes.proofs.Inputs.{input-injective}
use Rattle.runs.specs.Run.{IsRun}
use Rattle.runs.specs.Tally.{IsTally}
use Rattle.runs.specs.Contract.{MeetsRunCheck}
use Rattle.std.specs.Prelude.{Result}
use Rattle.refusals.specs.declared.Refused.{Refused}
use Rattle.runs.specs.declared.run.Span.{Span}
use Rattle.runs.specs.declared.tally.Tallied.{Tallied}
use Rattle.runs.proofs.Runs.{run-check-injective}

pub one-answer-run-check : (list : List ℕ) (addr len : ℕ) (x y : Result Span Refused) → MeetsRunCheck list addr len x → MeetsRunCheck list addr len y → x ≡ y
one-answer-run-check list addr len x y p q = run-check-injective x y (p ∙ sym q)

-- two runs of a list hold the same and stand at the same place: a part of the list is its elements and its place, and a reference has nothing
-- else that a program can see
pub one-answer-run : (list : Bor (List ℕ)) (addr len : ℕ) (x y : Bor (List ℕ)) → IsRun list x addr len → IsRun list y addr len → (x.now ≡ y.now) ×
    (x.ref_ptr ≡ y.ref_ptr)
one-answer-run list addr len x y p q = (p.holds ∙ sym q.holds, p.stands ∙ sym q.stands)

pub one-answer-tally : (bytes : List ℕ) (x y : Tallied) → IsTally bytes x → IsTally bytes y → x ≡ y
one-answer-tally bytes x y p q =
    let a = input-injective x.answer y.answer (p.answered ∙ sym q.answered) in
    let c = p.counted ∙ sym q.counted in
    λ i. record { answer = a i; counts = c i }
