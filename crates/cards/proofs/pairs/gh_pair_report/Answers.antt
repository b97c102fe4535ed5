-- `cards::pairs::gh_pair_report`. The party's route count and both its needs.
use mathlib.Core.Path.{ap, ◌∙◌}
use Rattle.numbered.proofs.Numbers.{said-alone}
use Rattle.packing.specs.Pack.{pack_report}
use Rattle.cards.proofs.PairLaws.{pair-report-card}
use Rattle.cards.proofs.pairs.gh_pair_report.Goals as goal

pub returns : goal.returns
returns c = pair-report-card _ _ c.state.ensures _ _ _ c.is_second.ensures _ _ c.report.ensures (c.reported.ensures ∙ ap pack_report (said-alone _ _))
