-- `cards::broadcasts::gh_broadcast`: what the call inside says, packed.
use mathlib.Core.Path.{ap, ◌∙◌}
use Rattle.numbered.proofs.Numbers.{said-with_index}
use Rattle.packing_inputs.specs.Casts.{pack_cast}
use Rattle.cards.proofs.broadcasts.gh_broadcast.Goals as goal

pub returns : goal.returns
returns c = c.cast_word.ensures ∙ ap pack_cast (said-with_index _ _ ∙ c.broadcast.ensures)
