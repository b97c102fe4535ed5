-- `sail_step::word::head`. The first cell of an address.
use Rattle.std.proofs.Common.{arith}
use Rattle.sail_step.proofs.Words.{first-there}
use Rattle.sail_step.proofs.word.head.Goals as goal

pub overflow_cast-result : goal.overflow_cast-result
overflow_cast-result c = omega (arith, first-there _ _ _ c.requires c.ranges.addr.fits)

pub offset_bounds-first-addr : goal.offset_bounds-first-addr
offset_bounds-first-addr c = omega (arith, first-there _ _ _ c.requires c.ranges.addr.fits)

pub bounds-first-addr : goal.bounds-first-addr
bounds-first-addr c = first-there _ _ _ c.requires c.ranges.addr.fits
