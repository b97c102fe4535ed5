-- `cards::pairs::gh_pair_make`. A fresh box of this geometry and these limits.
use mathlib.Core.Path.{ap, ◌∙◌}
use Rattle.numbered.proofs.Numbers.{said-alone}
use Rattle.refusals.specs.declared.Refusal.{Refusal}
use Rattle.pair.specs.Party.{one}
use Rattle.packing.specs.Pack.{pack_change}
use Rattle.cards.proofs.PairLaws.{pair-make-card, count-after}
use Rattle.cards.proofs.pairs.gh_pair_make.Goals as goal

pub returns : goal.returns
returns c =
    pair-make-card _ _ c.state-t.ensures _ _ _ _ _ _ c.make-made.ensures
    (count-after {E = Refusal} one c.state-t.result c.make-made.result _ c.count-n.ensures c.unwrap_or.ensures)
    (c.made.ensures ∙ ap (pack_change _) (said-alone _ _))
