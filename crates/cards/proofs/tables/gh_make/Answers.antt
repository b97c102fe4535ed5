-- `cards::tables::gh_make`: the state after the call is the new one, or the one that was given.
use mathlib.Core.Path.{ap, ◌∙◌}
use Rattle.numbered.proofs.Numbers.{said-alone}
use Rattle.refusals.specs.declared.Refusal.{Refusal}
use Rattle.packing.specs.Pack.{pack_change}
use Rattle.cards.proofs.Laws.{new-state-card}
use Rattle.cards.proofs.tables.gh_make.Goals as goal

pub returns : goal.returns
returns c =
    new-state-card {E = Refusal} _ _ c.make-made.result _ _ _ c.make-made.ensures
    (rw c.unwrap_or.ensures at (c.made.ensures ∙ ap (pack_change _) (said-alone _ _)))
