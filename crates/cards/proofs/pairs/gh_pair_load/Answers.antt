-- `cards::pairs::gh_pair_load`: the party's routes become those of the input.
use mathlib.Core.Path.{ap, ◌∙◌}
use Rattle.numbered.proofs.Numbers.{said-with_index}
use Rattle.refusals.specs.declared.Refused.{Refused}
use Rattle.packing.specs.Pack.{pack_change}
use Rattle.cards.proofs.PairLaws.{pair-load-card, count-after}
use Rattle.cards.proofs.pairs.gh_pair_load.Goals as goal

pub returns : goal.returns
returns c =
    pair-load-card _ _ c.state-t.ensures _ _ _ c.is_second-guest.ensures _ _ _ _ _
    (count-after {E = Refused} _ c.state-t.result c.load-loaded.result _ c.count-n.ensures c.unwrap_or.ensures)
    (c.loaded.ensures ∙ ap (pack_change _) (said-with_index _ _)) _ c.load-loaded.ensures
