-- `pair_make::blank`: the first party's arrays and the shared ones as for a table of one, and then the second party's.
use Rattle.buffers.proofs.Fills.{now_set}
use Rattle.pair_make.proofs.PairMakes.{blank-box}
use Rattle.pair_make.proofs.blank.Goals as goal

pub returns : goal.returns
returns c = blank-box _ _ _ _ _ _ _ _ _ _ _ _ c.blank.ensures (now_set c.fill.ensures.after) (now_set c.fill-2.ensures.after)
    (now_set c.fill-3.ensures.after)
