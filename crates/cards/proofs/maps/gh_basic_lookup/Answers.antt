-- What the lookup in the maps says is packed.
use mathlib.Core.Path.{ap, ◌∙◌}
use Rattle.numbered.proofs.Numbers.{said-with_index}
use Rattle.basic.specs.Calls.{pack_hop}
use Rattle.cards.proofs.maps.gh_basic_lookup.Goals as goal

pub returns : goal.returns
returns c = c.hop_found.ensures ∙ ap pack_hop (said-with_index _ _ ∙ c.lookup.ensures)
