use Rattle.std.proofs.Common.{arith, rules}
use Rattle.tree_formed.proofs.Neighbours.{way-start, way_on, way_end, way_out}
use Rattle.tree_bases.proofs.nodes_in.Goals as goal

pub loop-at-init : goal.loop-at-init
loop-at-init c = (search rules, way-start _)

pub returns-then-next-at : goal.returns-then-next-at
returns-then-next-at c = way_end _ _ c.loop-at.invariant.1 _ c.first_child-next.ensures.0 (omega (arith, c.if-next-at.true))

pub loop-at-preserved : goal.loop-at-preserved
loop-at-preserved c = (
  c.loop-at.invariant.0,
  way_on _ _ c.loop-at.invariant.1 _ c.first_child-next.ensures.0 (omega (arith, c.if-next-at.false)),
)

pub returns : goal.returns
returns c = search way_out
