-- What the many lookups say is packed, and the words that they leave are those that are lent.
use mathlib.Core.Path.{ap, ◌∙◌}
use Rattle.numbered.proofs.Numbers.{said-with_index}
use Rattle.packing.specs.Pack.{pack_none}
use Rattle.cards.proofs.Hops.{hops-card-is}
use Rattle.cards.proofs.maps.gh_basic_lookup_many.Goals as goal

pub returns : goal.returns
returns c = hops-card-is _ _ _ _ c.lookup_many.ensures (c.answered.ensures ∙ ap pack_none (said-with_index _ _))
