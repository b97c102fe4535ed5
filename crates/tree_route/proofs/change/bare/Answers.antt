-- The path stands down to this depth, so the way down ends at its node.
use Rattle.tree_route.proofs.Bares.{bare-root, bare-node}
use Rattle.tree_route.proofs.change.bare.Goals as goal

pub returns-then-m-eq0 : goal.returns-then-m-eq0
returns-then-m-eq0 c = bare-root _ _ _ _ c.requires c.if-m-eq0.true

pub descend-last-requires : goal.descend-last-requires
descend-last-requires c = (c.requires.order, c.requires.deep)

pub returns : goal.returns
returns c = bare-node _ _ _ _ c.requires c.if-m-eq0.false _ _ c.descend-last.ensures
