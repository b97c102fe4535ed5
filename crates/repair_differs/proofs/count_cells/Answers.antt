-- `repair_differs::count_cells`. Zeros of its own are lent as owners, as many as there are chunks.
use Rattle.repair_differs.proofs.Withs.{own-few2, own-few3, own-room2, own-room3, own-roomy, own-differ}
use Rattle.repair_differs.proofs.count_cells.Goals as goal

pub slice_bounds-own2-end : goal.slice_bounds-own2-end
slice_bounds-own2-end c = own-few2 _ _ _ _ _ _ _ c.requires

pub slice_bounds-count_with-end : goal.slice_bounds-count_with-end
slice_bounds-count_with-end c = own-room2 _ _ _ _ _ _ _ c.requires

pub slice_bounds-own3-end : goal.slice_bounds-own3-end
slice_bounds-own3-end c = own-few3 _ _ _ _ _ _ _ c.requires

pub slice_bounds-count_with-end-2 : goal.slice_bounds-count_with-end-2
slice_bounds-count_with-end-2 c = own-room3 _ _ _ _ _ _ _ c.requires

pub count_with-requires : goal.count_with-requires
count_with-requires c = own-roomy _ _ _ _ _ _ _ c.requires

pub returns : goal.returns
returns c = own-differ _ _ _ _ _ _ _ c.requires _ c.count_with.ensures
