-- The two tests of the code are the two parts of the answer.
use mathlib.Core.Path.{◌∙◌}
use borrow.Author.Tests.{ne_eqb}
use Rattle.tree_theory.proofs.Places.{ends_above, ends_there}
use Rattle.tree_route.proofs.path.is_there.Goals as goal

pub returns-then-r-deep : goal.returns-then-r-deep
returns-then-r-deep c = ends_there _ _ _ _ c.if-r-deep.true c.is_set.ensures

pub returns-else-r-deep : goal.returns-else-r-deep
returns-else-r-deep c = ne_eqb _ _ c.if-r-deep.false ∙ ends_above _ _ _ c.if-r-deep.false
