-- What the header step answers, over a table and over a party's part of a box, is what is next to the case that holds (`Stepping`, `PairStepping`,
-- specs/Cases.antt), and nothing else.
use mathlib.Core.Path.{◌≡◌, ap, ◌∙◌}
use mathlib.Core.List.{List}
use Prim.Native.Nat.{ℕ}
use Rattle.routes.specs.Said.{Said}
use Rattle.sail.specs.Lent.{Lent}
use Rattle.sail.specs.Walk.{lookup_said}
use Rattle.sail.specs.declared.table.Table.{Table}
use Rattle.sail.proofs.Judged.{lookup-judged, lookup-only}
use Rattle.header.specs.Step.{StepOut, destination, stepped}
use Rattle.header.specs.Cases.{Step}
use Rattle.header.proofs.Steps.{step-judged, step-only, fine-said}
use Rattle.pair.specs.Party.{Party}
use Rattle.pair.specs.PairLent.{PairLent}
use Rattle.pair.specs.PairCalls.{pair_lookup_said}
use Rattle.pair.specs.declared.Pair.{Pair}
use Rattle.pair.proofs.PairJudged.{pair-lookup-judged, pair-lookup-only}
use Rattle.packets.specs.Cases.{Stepping, PairStepping}

module _ (t : Table) (l : Lent) (p : List ℕ) where
  pub stepping-judged : Stepping t l p (stepped (lookup_said t l) p).said
  stepping-judged = go (step-judged (lookup_said t l) p)
    where
      go : {o : StepOut} → Step (lookup_said t l) p o → Stepping t l p o.said
      go (Step.wrong n w) = Stepping.wrong n w
      go (Step.left h e) = Stepping.looked _ h (lookup-judged t l (destination p))
      go (Step.lowers h e) = Stepping.looked _ h (lookup-judged t l (destination p))

  pub stepping-only : (s : Said) → Stepping t l p s → (stepped (lookup_said t l) p).said ≡ s
  stepping-only s (Stepping.wrong n w) = ap (λ (o : StepOut). o.said) (step-only (lookup_said t l) p _ (Step.wrong n w))
  stepping-only s (Stepping.looked _ h c) = fine-said (lookup_said t l) p h ∙ lookup-only t l (destination p) s c

module _ (w : Party) (t : Pair) (b : PairLent) (p : List ℕ) where
  pub pair-stepping-judged : PairStepping w t b p (stepped (pair_lookup_said w t b) p).said
  pair-stepping-judged = go (step-judged (pair_lookup_said w t b) p)
    where
      go : {o : StepOut} → Step (pair_lookup_said w t b) p o → PairStepping w t b p o.said
      go (Step.wrong n h) = PairStepping.wrong n h
      go (Step.left h e) = PairStepping.looked _ h (pair-lookup-judged w t b (destination p))
      go (Step.lowers h e) = PairStepping.looked _ h (pair-lookup-judged w t b (destination p))

  pub pair-stepping-only : (s : Said) → PairStepping w t b p s → (stepped (pair_lookup_said w t b) p).said ≡ s
  pair-stepping-only s (PairStepping.wrong n h) = ap (λ (o : StepOut). o.said) (step-only (pair_lookup_said w t b) p _ (Step.wrong n h))
  pair-stepping-only s (PairStepping.looked _ h c) = fine-said (pair_lookup_said w t b) p h ∙ pair-lookup-only w t b (destination p) s c
