-- `cards::inputs::gh_run`: its length is narrowed, which changes nothing that the call says.
use mathlib.Core.Path.{ap, ◌∙◌}
use Rattle.numbered.proofs.Numbers.{said-with_index}
use Rattle.packing.specs.Pack.{pack_run}
use Rattle.cards.proofs.Narrow.{run-narrow}
use Rattle.cards.proofs.inputs.gh_run.Goals as goal

pub returns : goal.returns
returns c = c.run.ensures ∙ ap pack_run (said-with_index _ _ ∙ c.run_check.ensures ∙ run-narrow _ _ _ _ c.narrow8.ensures)
