-- `cards::tables::gh_load`: the state after the call is the new one, or the one that was given.
use mathlib.Core.Path.{ap, ◌∙◌}
use Rattle.numbered.proofs.Numbers.{said-with_index}
use Rattle.refusals.specs.declared.Refused.{Refused}
use Rattle.packing.specs.Pack.{pack_change}
use Rattle.cards.proofs.Laws.{new-state-card}
use Rattle.cards.proofs.tables.gh_load.Goals as goal

pub returns : goal.returns
returns c =
    new-state-card {E = Refused} _ _ c.load-loaded.result _ _ _ c.load-loaded.ensures
    (rw c.unwrap_or.ensures at (c.loaded.ensures ∙ ap (pack_change _) (said-with_index _ _)))
