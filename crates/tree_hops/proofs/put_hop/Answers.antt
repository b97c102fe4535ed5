-- Each step is asked what the one before it left; together they leave the arrays with the hop.
use Prim.Native.Nat.{◌+◌}
use borrow.Author.Rules.{rules}
use Rattle.tree_hops.proofs.Steps.{putting_hop, put-open, put-raise, put-store, put-leaves}
use Rattle.tree_places.proofs.After.{after_first}
use Rattle.tree_hops.proofs.put_hop.Goals as goal

pub up-requires : goal.up-requires
up-requires c = put-open (putting_hop c.requires c.hop_place-y.ensures.0)

pub bounds-hops-y : goal.bounds-hops-y
bounds-hops-y c = put-store (after_first (putting_hop c.requires c.hop_place-y.ensures.0) c.up.ensures)

pub each-requires : goal.each-requires
each-requires c =
    let r = put-raise c.requires in
    record { lent = r.stretch; called = λ i l u. let f = r.fits i l u in search rules }

pub returns : goal.returns
returns c =
    put-leaves (after_first (putting_hop c.requires c.hop_place-y.ensures.0) c.up.ensures) _
    (c.each.ensures (λ z. z + 1) (λ i y l u p. search rules)) c.with_bit.ensures
