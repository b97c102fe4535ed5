-- `cards::images::gh_build`. The image of the input's routes.
use mathlib.Core.Path.{ap, ◌∙◌}
use Rattle.numbered.proofs.Numbers.{said-with_index}
use Rattle.packing.specs.Pack.{pack_built}
use Rattle.cards.proofs.Laws.{image-card-is}
use Rattle.cards.proofs.images.gh_build.Goals as goal

pub returns : goal.returns
returns c = image-card-is _ _ _ _ _ c.build.ensures (c.built.ensures ∙ ap pack_built (said-with_index _ _))
