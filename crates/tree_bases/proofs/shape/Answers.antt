-- A well-formed image ends where the way to the first children does; so where that is no end, or the order is not kept up to it, there is none.
use Rattle.std.proofs.Common.{arith}
use Rattle.tree_formed.proofs.Neighbours.{shape-none, shape-past, shape-many, shape_is, shape-not}
use Rattle.tree_bases.proofs.shape.Goals as goal

pub returns-then-n-eq0 : goal.returns-then-n-eq0
returns-then-n-eq0 c = shape-none _ _ c.nodes_in-n.ensures c.if-n-eq0.true

pub returns-then-n-words : goal.returns-then-n-words
returns-then-n-words c = shape-past _ _ c.nodes_in-n.ensures c.if-n-words.true

pub returns-then-n-gt32769 : goal.returns-then-n-gt32769
returns-then-n-gt32769 c = shape-many _ _ c.nodes_in-n.ensures (λ j. (c.type_inv.words j).fits) c.if-n-gt32769.true

pub returns-then-not-in_order : goal.returns-then-not-in_order
returns-then-not-in_order c = shape-not _ _ c.nodes_in-n.ensures _ c.in_order.ensures c.if-not-in_order.true

pub returns : goal.returns
returns c =
    shape_is _ _ c.nodes_in-n.ensures _ c.in_order.ensures (omega (arith, c.if-n-gt32769.false)) c.if-not-in_order.false
