-- `cards::images::gh_tree_lookup`. The hop for one address, with the count of nodes read.
use mathlib.Core.Path.{ap, ◌∙◌}
use Rattle.sail.specs.Word.{pack_found}
use Rattle.cards.proofs.images.gh_tree_lookup.Goals as goal

pub returns : goal.returns
returns c = c.tree_found.ensures ∙ ap pack_found c.lookup.ensures
