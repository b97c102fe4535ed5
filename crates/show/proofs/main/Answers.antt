-- `show::main`: a page has room for what is printed, so the buffer holds as many bytes as are written out.
use native.Mathlib.Omega.{arith}
use Rattle.text_pieces.proofs.Writes.{wrote_count}
use Rattle.show.proofs.main.Goals as goal

pub slice_bounds-out-end : goal.slice_bounds-out-end
slice_bounds-out-end c = (c.printed-m.ensures.roomy (omega arith)).inside

pub slice_bounds-write_all-end : goal.slice_bounds-write_all-end
slice_bounds-write_all-end c = wrote_count (c.printed-m.ensures.roomy (omega arith))
