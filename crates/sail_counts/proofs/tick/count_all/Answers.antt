use native.Mathlib.Omega.{arith}
use Rattle.sail_counts.proofs.Loads.{none-come, next-tickable, next-come, all_come}
use Rattle.sail_counts.proofs.tick.count_all.Goals as goal

pub loop-k-init : goal.loop-k-init
loop-k-init c = none-come _ _ _ _ _ _ _ c.requires

pub read_record-r-requires : goal.read_record-r-requires
read_record-r-requires c = let w = c.requires in omega (arith, w.records.room)

pub tick-requires : goal.tick-requires
tick-requires c = next-tickable _ _ _ _ _ _ _ c.requires _ (omega arith) _ _ c.loop-k.invariant _ c.read_record-r.ensures

pub loop-k-preserved : goal.loop-k-preserved
loop-k-preserved c =
    next-come _ _ _ _ _ _ _ c.requires _ (omega arith) _ _ c.loop-k.invariant _ c.read_record-r.ensures _ _ _ c.tick.ensures

pub returns : goal.returns
returns c = all_come _ _ _ _ _ _ _ c.requires _ _ _ (omega arith) c.loop-k.invariant
