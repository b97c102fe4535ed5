-- What the test of the image says is packed.
use mathlib.Core.Path.{ap, ◌∙◌}
use Rattle.packing.specs.Pack.{pack_built}
use Rattle.cards.proofs.images.gh_tree_test.Goals as goal

pub returns : goal.returns
returns c = c.tested.ensures ∙ ap pack_built c.test.ensures
