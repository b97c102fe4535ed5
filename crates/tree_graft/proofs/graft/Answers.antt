-- Each step is asked what the one before it left; together they leave the words with the new node.
use Prim.Native.Nat.{◌+◌}
use borrow.Author.Rules.{rules}
use lib.ListN.{length-set}
use Rattle.tree_graft.proofs.Steps.{graft-put, graft-opened, graft-raised, graft-open, graft-raise, graft-stores, graft-leaves}
use Rattle.tree_graft.proofs.graft.Goals as goal

pub up-requires : goal.up-requires
up-requires c = graft-open (graft-put c.requires c.child_place-y.ensures.0 c.put_node.ensures)

pub each-requires : goal.each-requires
each-requires c =
    let r = graft-raise (graft-opened c.requires c.child_place-y.ensures.0 c.put_node.ensures c.up.ensures) in
    record { lent = r.stretch; called = λ i l u. let f = r.fits i l u in search rules }

pub bounds-words-y : goal.bounds-words-y
bounds-words-y c =
    (graft-stores (graft-raised c.requires c.child_place-y.ensures.0 c.put_node.ensures c.up.ensures
    (c.each.ensures (λ z. z + 1) (λ i y l u p. search rules)))).0

pub bounds-words-x-2 : goal.bounds-words-x-2
bounds-words-x-2 c =
    simp length-set (graft-stores (graft-raised c.requires c.child_place-y.ensures.0 c.put_node.ensures c.up.ensures
    (c.each.ensures (λ z. z + 1) (λ i y l u p. search rules)))).1

pub returns : goal.returns
returns c =
    graft-leaves (graft-raised c.requires c.child_place-y.ensures.0 c.put_node.ensures c.up.ensures
    (c.each.ensures (λ z. z + 1) (λ i y l u p. search rules))) _ c.with_bit.ensures
