-- `cards::inputs::gh_route`. One route of the input, read back.
use mathlib.Core.Path.{ap, ◌∙◌}
use Rattle.numbered.proofs.Numbers.{said-with_index}
use Rattle.packing.specs.Pack.{pack_route}
use Rattle.cards.proofs.inputs.gh_route.Goals as goal

pub returns : goal.returns
returns c = c.got.ensures ∙ ap pack_route (said-with_index _ _ ∙ c.route_at.ensures)
