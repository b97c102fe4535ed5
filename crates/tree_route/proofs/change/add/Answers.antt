use native.Mathlib.Omega.{arith}
use Rattle.tree_route.proofs.Adds.{grow-start, grow-ready, grow-next, grow-put, grow-done}
use Rattle.tree_route.proofs.change.add.Goals as goal

pub loop-m-init : goal.loop-m-init
loop-m-init c = grow-start c.requires

pub turn-requires : goal.turn-requires
turn-requires c = omega (arith, c.requires.new.fine.prefix.len_ok)

pub graft-at-requires : goal.graft-at-requires
graft-at-requires c = grow-ready c.requires c.loop-m.invariant c.loop-m-test.true _ c.turn.ensures.0

pub overflow_add-nodes : goal.overflow_add-nodes
overflow_add-nodes c = omega (arith, c.graft-at.ensures.lent)

pub loop-m-preserved : goal.loop-m-preserved
loop-m-preserved c = grow-next c.requires c.loop-m.invariant c.loop-m-test.true _ c.turn.ensures.0 c.graft-at.ensures

pub put_hop-requires : goal.put_hop-requires
put_hop-requires c = grow-put c.requires c.loop-m.invariant c.loop-m-test.false

pub returns : goal.returns
returns c = grow-done c.requires c.loop-m.invariant c.loop-m-test.false c.put_hop.ensures
