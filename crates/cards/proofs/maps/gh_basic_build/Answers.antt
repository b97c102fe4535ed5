-- What the build of the maps says is packed, and what it leaves is what is lent.
use mathlib.Core.Path.{ap, ◌∙◌}
use Rattle.numbered.proofs.Numbers.{said-with_index}
use Rattle.packing.specs.Pack.{pack_none}
use Rattle.cards.proofs.Hops.{maps-card-is}
use Rattle.cards.proofs.maps.gh_basic_build.Goals as goal

pub returns : goal.returns
returns c = maps-card-is _ _ _ _ _ c.build.ensures (c.answered.ensures ∙ ap pack_none (said-with_index _ _))
