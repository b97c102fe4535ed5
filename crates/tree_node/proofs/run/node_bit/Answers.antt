-- `tree_node::run::node_bit`. The bit of a node of depth m at which a route that passes through it lies.
use native.Mathlib.Omega.{arith}
use Rattle.tree_node.proofs.Marks.{some, inner-place, outer-place}
use Rattle.tree_node.proofs.run.node_bit.Goals as goal

pub overflow_sub-ones-then-len-m : goal.overflow_sub-ones-then-len-m
overflow_sub-ones-then-len-m c = search some

pub overflow_add-result : goal.overflow_add-result
overflow_add-result c =
    record {
      fits = omega (
        arith,
        (inner-place _ _ c.requires.0 c.if-len-m.true c.args.addr
            c.slot.result c.slot.ensures).1,
      );
    }

pub returns-then-len-m : goal.returns-then-len-m
returns-then-len-m c = inner-place _ _ c.requires.0 c.if-len-m.true _ _ c.slot.ensures

pub returns : goal.returns
returns c = outer-place _ _ _ c.if-len-m.false _ c.slot-2.ensures
