use Rattle.buffers.proofs.Fills.{now_set}
use Rattle.buffers.proofs.Parts.{filled_part}
use Rattle.buffers.proofs.fill.fill_range.Goals as goal

pub returns : goal.returns
returns c = filled_part _ _ _ _ _ c.requires (now_set c.fill.ensures.after)
