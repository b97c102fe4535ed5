-- `cards::images::gh_tree_announce`: its length and its hop are narrowed, which changes nothing that the call says or leaves.
use mathlib.Core.Path.{ap, ◌∙◌}
use Rattle.numbered.proofs.Numbers.{said-alone}
use Rattle.packing.specs.ImageAnswers.{pack_image}
use Rattle.cards.proofs.ImageCalls.{tree-announce-card}
use Rattle.cards.proofs.images.gh_tree_announce.Goals as goal

pub returns : goal.returns
returns c =
    tree-announce-card _ _ _ _ _ c.narrow8.ensures _ _ _ _ _ _ c.narrow16.ensures c.announce.ensures
    (c.announced.ensures ∙ ap pack_image (said-alone _ _))
