use mathlib.Core.Path.{refl}
use native.Mathlib.Omega.{arith}
use Rattle.tree_theory.proofs.Midways.{become}
use Rattle.tree_route.proofs.Removes.{take-ready, shrink-start, shrink-path, shrink-some, shrink-up, shrink-ready, shrink-next, shrink-done}
use Rattle.tree_route.proofs.change.remove.Goals as goal

pub take_hop-requires : goal.take_hop-requires
take_hop-requires c = take-ready _ c.requires

pub loop-m-init : goal.loop-m-init
loop-m-init c = ((λ rs g. g), refl)

pub bare-requires : goal.bare-requires
bare-requires c =
    -- what is held at the loop's head: the routes without the prefix
    let held = c.loop-m.invariant.0 _ (shrink-start _ c.requires c.take_hop.ensures) in
    shrink-path held

pub overflow_sub-m : goal.overflow_sub-m
overflow_sub-m c =
    let held = c.loop-m.invariant.0 _ (shrink-start _ c.requires c.take_hop.ensures) in
    (shrink-some held _ c.bare.ensures c.loop-m-test.true).0

pub overflow_sub-nodes : goal.overflow_sub-nodes
overflow_sub-nodes c =
    let held = c.loop-m.invariant.0 _ (shrink-start _ c.requires c.take_hop.ensures) in
    (shrink-some held _ c.bare.ensures c.loop-m-test.true).1

pub overflow_add-nodes : goal.overflow_add-nodes
overflow_add-nodes c =
    let held = c.loop-m.invariant.0 _ (shrink-start _ c.requires c.take_hop.ensures) in
    omega (arith, held.holds.order.lent)

pub descend-up-requires : goal.descend-up-requires
descend-up-requires c =
    let held = c.loop-m.invariant.0 _ (shrink-start _ c.requires c.take_hop.ensures) in
    shrink-up held _ c.bare.ensures c.loop-m-test.true

pub turn-requires : goal.turn-requires
turn-requires c =
    let held = c.loop-m.invariant.0 _ (shrink-start _ c.requires c.take_hop.ensures) in
    omega (arith, held.deep, (shrink-some held _ c.bare.ensures c.loop-m-test.true).0)

pub prune-requires : goal.prune-requires
prune-requires c =
    let held = c.loop-m.invariant.0 _ (shrink-start _ c.requires c.take_hop.ensures) in
    shrink-ready held _ c.bare.ensures c.loop-m-test.true c.descend-up.ensures _ c.turn.ensures.0

pub loop-m-smaller : goal.loop-m-smaller
loop-m-smaller c =
    let held = c.loop-m.invariant.0 _ (shrink-start _ c.requires c.take_hop.ensures) in
    omega (arith, (shrink-some held _ c.bare.ensures c.loop-m-test.true).0)

pub loop-m-preserved : goal.loop-m-preserved
loop-m-preserved c = (
  (λ rs g.
      shrink-next (c.loop-m.invariant.0 rs g) _ c.bare.ensures c.loop-m-test.true
      c.descend-up.ensures _
      c.turn.ensures.0 c.prune.ensures),
  omega arith,
)

pub returns : goal.returns
returns c =
    let held = c.loop-m.invariant.0 _ (shrink-start _ c.requires c.take_hop.ensures) in
    become held.good (shrink-done held _ c.bare.ensures c.loop-m-test.false) (omega arith) (omega arith)
