-- Each step is asked what the one before it left; together they leave the arrays without the hop.
use Prim.Native.Nat.{◌-◌}
use borrow.Author.Rules.{rules}
use Rattle.tree_hops.proofs.Steps.{taking_hop, take-lower, take-close, take-leaves}
use Rattle.tree_places.proofs.After.{after_first}
use Rattle.tree_hops.proofs.take_hop.Goals as goal

pub each-requires : goal.each-requires
each-requires c =
    let r = take-lower (taking_hop c.requires c.hop_place-y.ensures.0 c.without_bit.ensures) in
    record { lent = r.stretch; called = λ i l u. let f = r.some i l u in search rules }

pub down-requires : goal.down-requires
down-requires c = take-close (taking_hop c.requires c.hop_place-y.ensures.0 c.without_bit.ensures)

pub returns : goal.returns
returns c =
    take-leaves (after_first (taking_hop c.requires c.hop_place-y.ensures.0 c.without_bit.ensures)
    (c.each.ensures (λ z. z - 1) (λ i y l u p. search rules))) c.down.ensures
