use native.Mathlib.Omega.{arith}
use Rattle.sail_owners.proofs.Passes.{passed_none, passed-all, passed-opens, passed-more}
use Rattle.sail_owners.proofs.owners.open_between.Goals as goal

pub loop-k-init : goal.loop-k-init
loop-k-init c = passed_none _ _ _ _ _ c.requires

pub open_for-u-requires : goal.open_for-u-requires
open_for-u-requires c = passed-opens _ _ _ _ _ c.requires _ _ _ _ c.loop-k.invariant (omega arith) _ c.read_record.ensures

pub loop-k-preserved : goal.loop-k-preserved
loop-k-preserved c =
    passed-more _ _ _ _ _ c.requires _ _ _ _ c.loop-k.invariant (omega arith) _ c.read_record.ensures _ _ _ c.open_for-u.ensures

pub returns : goal.returns
returns c = passed-all _ _ _ _ _ c.requires _ _ _ _ c.loop-k.invariant (omega arith)
