-- The bases of the root, then each node against the next, then that no child stands past the last node.
use Rattle.std.proofs.Common.{arith}
use Rattle.tree_formed.proofs.Neighbours.{order-child, order-base, order-wrong, order-end}
use Rattle.tree_bases.proofs.in_order.Goals as goal

pub returns-then-words-ne1 : goal.returns-then-words-ne1
returns-then-words-ne1 c = order-child _ _ c.requires c.if-words-ne1.true

pub returns-then-words-ne0 : goal.returns-then-words-ne0
returns-then-words-ne0 c = order-base _ _ c.requires c.if-words-ne0.true

pub follow-requires : goal.follow-requires
follow-requires c =
    let k = c.requires in
    record { lent = omega (arith, k.some, k.lent); few = omega (arith, k.few); child = c.if-words-ne1.false; base = c.if-words-ne0.false }

pub returns-then-not-follow : goal.returns-then-not-follow
returns-then-not-follow c = order-wrong _ _ c.requires _ c.follow.ensures c.if-not-follow.true

pub returns : goal.returns
returns c = order-end _ _ c.requires (c.follow.ensures.0 c.if-not-follow.false) _ c.after_children.ensures
