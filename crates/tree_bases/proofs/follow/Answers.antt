use Rattle.std.proofs.Common.{arith, refl}
use Rattle.tree_formed.proofs.Neighbours.{right-start, right-next, right-end}
use Rattle.tree_bases.proofs.follow.Goals as goal

pub loop-i-init : goal.loop-i-init
loop-i-init c = (omega arith, right-start _ _ c.requires)

pub loop-i-preserved : goal.loop-i-preserved
loop-i-preserved c = (
  omega arith,
  right-next _ (λ j. (c.type_inv.words j).fits) _ (omega (arith, c.loop-i-test.true, c.requires.few)) _ _ _ _
      (record { kids = c.children.ensures.0; own = c.ones_below.ensures.0; its_child = refl; its_hop = refl }) _ c.loop-i.invariant.1,
)

pub returns : goal.returns
returns c = right-end _ _ _ _ c.loop-i.invariant.0 (omega (arith, c.loop-i-test.false)) c.loop-i.invariant.1
