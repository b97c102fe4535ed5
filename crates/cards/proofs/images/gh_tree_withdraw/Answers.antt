-- `cards::images::gh_tree_withdraw`: its length is narrowed, which changes nothing that the call says or leaves.
use mathlib.Core.Path.{ap, ◌∙◌}
use Rattle.numbered.proofs.Numbers.{said-alone}
use Rattle.packing.specs.Pack.{pack_built}
use Rattle.cards.proofs.ImageCalls.{tree-withdraw-card}
use Rattle.cards.proofs.images.gh_tree_withdraw.Goals as goal

pub returns : goal.returns
returns c =
    tree-withdraw-card _ _ _ _ _ c.narrow8.ensures _ _ _ _ c.withdraw.ensures (c.withdrawn.ensures ∙ ap pack_built (said-alone _ _))
