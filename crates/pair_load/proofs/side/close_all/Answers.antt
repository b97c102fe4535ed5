use native.Mathlib.Omega.{arith}
use lib.ListN.{get_or}
use Rattle.pair_load.proofs.Closes.{not-zero, closed_none, closing, closed-more, closed_all}
use Rattle.pair_load.proofs.side.close_all.Goals as goal

pub loop-c-init : goal.loop-c-init
loop-c-init c = closed_none _ _ _ _ c.requires

pub close-requires : goal.close-requires
close-requires c = closing _ _ _ _ c.requires _ _ _ c.loop-c.invariant _ (omega arith)

pub loop-c-preserved : goal.loop-c-preserved
loop-c-preserved c =
    let test = not-zero (get_or c.args.see.now c.loop-c.c 0) in
    closed-more _ _ _ _ c.requires _ _ _ c.loop-c.invariant _ _ _ (omega arith) test c.close.ensures.owner c.close.ensures.blank

pub returns : goal.returns
returns c = let all = closed_all _ _ _ _ c.requires _ _ _ c.loop-c.invariant (omega arith) in record { owner = all.0; blank = all.1 }
