-- The header step: what it answers has room in its word, a caller that reads the word by the header's fields has exactly what the call inside
-- answers, and nothing else is in it. Supposed is what the boundary's types give: cells of 16 bits (`Cells16`).
use mathlib.Core.Path.{◌≡◌, refl}
use mathlib.Core.List.{List}
use Prim.Native.Nat.{ℕ}
use native.Mathlib.Omega.{arith}
use Rattle.sail.specs.Lent.{Lent}
use Rattle.sail.specs.Walk.{lookup_said}
use Rattle.sail.specs.declared.table.Table.{Table}
use Rattle.header.specs.Step.{StepOut, destination, stepped, StepCard, step_card_of}
use Rattle.header.specs.Cases.{Step}
use Rattle.header.proofs.Faults.{wrong-some}
use Rattle.header.proofs.Steps.{step-judged}
use Rattle.packing.specs.Unpack.{unpack_found, FitsWord, FoundFits, Cells16}
use Rattle.packing.specs.Parts.{parts, found_parts}
use Rattle.packing.proofs.Unpacks.{found-read}
use Rattle.packing.proofs.Parts.{found-parts}
use Rattle.cards.proofs.Fits.{lookup-fits}

module _ (t : Table) (l : Lent) (p : List ℕ) where
  -- what the statement of `gh_step` says of its answer and of the packet at exit
  abbrev step : StepOut
  step = stepped (lookup_said t l) p

  abbrev card : StepCard
  card = step_card_of step

  pub gh-step-packet : card.packet ≡ step.packet
  unfolding step_card_of
  gh-step-packet = refl

  module _ (cells : Cells16 l) where
    -- 19 to 22 fit where every number does
    step_fits : FitsWord 0 FoundFits step.said
    step_fits = go (step-judged (lookup_said t l) p)
      where
        go : {o : StepOut} → Step (lookup_said t l) p o → FitsWord 0 FoundFits o.said
        go (Step.wrong n w) = FitsWord.number n (omega (arith, (wrong-some w).0)) (omega (arith, (wrong-some w).1))
        go (Step.left h e) = lookup-fits t l cells (destination p)
        go (Step.lowers h e) = lookup-fits t l cells (destination p)

    pub gh-step-read : unpack_found card.answer ≡ step.said
    unfolding step_card_of
    gh-step-read = found-read 0 (omega arith) _ step_fits

    pub gh-step-named : card.answer ≡ parts found_parts card.answer
    unfolding step_card_of
    gh-step-named = found-parts 0 (omega arith) _ step_fits
