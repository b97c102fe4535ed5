use mathlib.Core.Bool.{not}
use mathlib.Core.Path.{ap}
use native.Mathlib.Omega.{arith}
use Rattle.tree_node.proofs.Scans.{all_more, run-stops, run_ends}
use Rattle.tree_node.proofs.run.run_end.Goals as goal

pub loop-k-init : goal.loop-k-init
loop-k-init c = (omega arith, omega arith, λ j l u. absurd (omega arith))

pub returns-then-not-passes : goal.returns-then-not-passes
returns-then-not-passes c = search run-stops

pub loop-k-preserved : goal.loop-k-preserved
loop-k-preserved c = (
  omega arith,
  omega arith,
  all_more _ _ _ _ _ c.read_record-first.ensures
      c.slot-path.ensures _ _ c.passes.ensures c.loop-k.invariant.2 (ap not c.if-not-passes.false),
)

pub returns : goal.returns
returns c = search run_ends
