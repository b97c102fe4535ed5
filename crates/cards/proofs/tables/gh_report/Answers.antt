-- `cards::tables::gh_report`. The route count and both needs.
use mathlib.Core.Path.{ap, ◌∙◌}
use Rattle.numbered.proofs.Numbers.{said-alone}
use Rattle.packing.specs.Pack.{pack_report}
use Rattle.cards.proofs.tables.gh_report.Goals as goal

pub returns : goal.returns
returns c = c.reported.ensures ∙ ap pack_report (said-alone _ _ ∙ c.report.ensures)
