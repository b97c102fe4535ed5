-- `chain::list::chained_from`. The words before k stand, and so do their parents; those from k on are made at the front of the room that is lent.
use Rattle.chain.proofs.Fronts.{below_in, below-count, below-decoded, left_in, left-count, left-ready, left-chained}
use Rattle.chain.proofs.list.chained_from.Goals as goal

pub slice_bounds-decode-end : goal.slice_bounds-decode-end
slice_bounds-decode-end c = below_in _ _ _ _ _ c.requires

pub slice_bounds-decode-end-2 : goal.slice_bounds-decode-end-2
slice_bounds-decode-end-2 c = below-count _ _ _ _ _ c.requires

pub decode-requires : goal.decode-requires
decode-requires c = below-decoded _ _ _ _ _ c.requires

pub slice_bounds-ready-end : goal.slice_bounds-ready-end
slice_bounds-ready-end c = left_in _ _ _ _ _ c.requires _ c.decode.ensures

pub slice_bounds-ready-end-2 : goal.slice_bounds-ready-end-2
slice_bounds-ready-end-2 c = left-count _ _ _ _ _ c.requires _ c.decode.ensures

pub ready-requires : goal.ready-requires
ready-requires c =
    let all = left-ready _ _ _ _ _ c.requires _ c.decode.ensures in record { words_room = all.0; parents_below = all.1 }

pub returns : goal.returns
returns c = left-chained _ _ _ _ _ c.requires _ c.decode.ensures _ c.ready.auto.par c.ready.ensures
