-- Each step is asked what the one before it left; together they leave the words without the node.
use Prim.Native.Nat.{◌-◌}
use borrow.Author.Rules.{rules}
use Rattle.tree_graft.proofs.Steps.{pruning, prune-lowered, prune-closed, prune-blanked, prune-lower, prune-close, prune-put, prune-leaves}
use Rattle.tree_graft.proofs.prune.Goals as goal

pub each-requires : goal.each-requires
each-requires c =
    let r = prune-lower (pruning c.requires c.child_place-y.ensures.0 c.without_bit.ensures) in
    record { lent = r.stretch; called = λ i l u. let f = r.some i l u in search rules }

pub down-requires : goal.down-requires
down-requires c =
    prune-close (prune-lowered (pruning c.requires c.child_place-y.ensures.0 c.without_bit.ensures)
    (c.each.ensures (λ z. z - 1) (λ i y l u p. search rules)))

pub put_node-requires : goal.put_node-requires
put_node-requires c =
    prune-put (prune-closed (pruning c.requires c.child_place-y.ensures.0 c.without_bit.ensures)
    (c.each.ensures (λ z. z - 1) (λ i y l u p. search rules)) c.down.ensures)

pub returns : goal.returns
returns c =
    prune-leaves (prune-blanked (pruning c.requires c.child_place-y.ensures.0 c.without_bit.ensures)
    (c.each.ensures (λ z. z - 1) (λ i y l u p. search rules)) c.down.ensures c.put_node.ensures)
