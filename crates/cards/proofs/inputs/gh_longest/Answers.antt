-- `cards::inputs::gh_longest`. The longest route of the input that covers an address.
use mathlib.Core.Path.{ap, ◌∙◌}
use Rattle.numbered.proofs.Numbers.{said-with_index}
use Rattle.packing.specs.Pack.{pack_route}
use Rattle.cards.proofs.inputs.gh_longest.Goals as goal

pub returns : goal.returns
returns c = c.got.ensures ∙ ap pack_route (said-with_index _ _ ∙ c.longest.ensures)
