use native.Mathlib.Omega.{arith}
use borrow.Author.Rules.{rules}
use Rattle.tree_node.proofs.Kids.{kids-none, kids-skip, kid-slot, kid-deep, kid-room, kids-put, kids-done}
use Rattle.tree_node.proofs.put.put_kids.Goals as goal

pub loop-k-init : goal.loop-k-init
loop-k-init c = (omega arith, c.requires.node.run.first, kids-none _ _ _ _ _ _)

pub loop-k-preserved-then-from-m : goal.loop-k-preserved-then-from-m
loop-k-preserved-then-from-m c = (omega arith, omega arith, search kids-skip)

pub run_end-k-requires : goal.run_end-k-requires
run_end-k-requires c = (search rules, search rules, search kid-deep)

pub slot-requires : goal.slot-requires
slot-requires c = search kid-slot

pub put_node-requires : goal.put_node-requires
put_node-requires c = search kid-room

pub loop-k-preserved : goal.loop-k-preserved
loop-k-preserved c = (
  omega arith,
  search rules,
  search kids-put,
)

pub returns : goal.returns
returns c = search kids-done
