use native.Mathlib.Omega.{arith}
use Rattle.repair_leaves.proofs.Counts.{counting-none, counting-hit, counting-miss, counting-all}
use Rattle.repair_levels.proofs.Names.{name-none, name-off, name-same}
use Rattle.repair_levels.proofs.off_names.Goals.{then-o-ne0+then-from-number, then-o-ne0+else-from-number, else-o-ne0}
use Rattle.repair_levels.proofs.off_names.Goals as goal

pub loop-c-init : goal.loop-c-init
loop-c-init c = counting-none

pub bounds-cells-o : goal.bounds-cells-o
bounds-cells-o c = c.requires.inside _ _ c.loop-c-test.true (omega (arith, c.owner_at-o.ensures.0, c.if-o-ne0.true))

pub loop-c-preserved : goal.loop-c-preserved
loop-c-preserved c =
    let cells = c.args.cells.now in
    let own = c.args.own.now in
    let o = c.owner_at-o.ensures in
    elim c.if-o-ne0.branch [
      | then-o-ne0+then-from-number w ↦ rw w.m-is
          (counting-hit c.loop-c.invariant (omega arith) (name-off cells own c.loop-c.c _ o w.if-o-ne0.true _ w.from.ensures w.if-from-number.true))
      | then-o-ne0+else-from-number w ↦ rw w.m-is
          (counting-miss c.loop-c.invariant (omega arith) (name-same cells own c.loop-c.c _ o w.if-o-ne0.true _ w.from.ensures w.if-from-number.false))
      | else-o-ne0 w ↦ rw w.m-is (counting-miss c.loop-c.invariant (omega arith) (name-none cells own c.loop-c.c _ o w.if-o-ne0.false))
    ]

pub returns : goal.returns
returns c = counting-all c.loop-c.invariant (omega arith)
