-- Two answers that the statement of a header step allows are the same, and so are the packets; by any lookup.
use mathlib.Core.List.{List}
use mathlib.Core.Path.{◌≡◌, sym, ◌∙◌, ap}
use Prim.Native.Nat.{ℕ}
use Rattle.routes.specs.Said.{Said}
use Rattle.sail.specs.Lent.{Lent}
use Rattle.sail.specs.declared.table.Table.{Table}
use Rattle.pair.specs.Party.{Party}
use Rattle.pair.specs.PairLent.{PairLent}
use Rattle.pair.specs.declared.Pair.{Pair}
use Rattle.header.specs.Step.{StepCard}
use Rattle.packets.specs.Contract.{StepsBy, MeetsStep, MeetsPairStep}

one-step : (look : ℕ → Said) (p : List ℕ) (r s : ℕ) (q u : List ℕ) → StepsBy look p r q → StepsBy look p s u → (r ≡ s) × (q ≡ u)
one-step look p r s q u x y = (ap (λ (c : StepCard). c.answer) (x ∙ sym y), ap (λ (c : StepCard). c.packet) (x ∙ sym y))

pub one-answer-step : (t : Table) (l : Lent) (p : List ℕ) (r s : ℕ) (q u : List ℕ) → MeetsStep t l p r q → MeetsStep t l p s u → (r ≡ s) × (q ≡ u)
one-answer-step t l p r s q u x y = one-step _ p r s q u x y

pub one-answer-pair-step : (w : Party) (t : Pair) (b : PairLent) (p : List ℕ) (r s : ℕ) (q u : List ℕ)
    → MeetsPairStep w t b p r q → MeetsPairStep w t b p s u → (r ≡ s) × (q ≡ u)
one-answer-pair-step w t b p r s q u x y = one-step _ p r s q u x y
