-- `sail_lookup::walk`: a law for each cell that it may end at.
use mathlib.Core.Bool.{not}
use mathlib.Core.Path.{ap}
use Rattle.std.proofs.Common.{arith, rules}
use Rattle.sail.proofs.Steps.{first-in, chunk-named, leaf1, off1, leaf2, off2, leaf3, off3}
use Rattle.sail_lookup.proofs.walk.Goals as goal

pub overflow_cast-v1 : goal.overflow_cast-v1
overflow_cast-v1 c = omega (arith, first-in _ _ _ c.requires c.ranges.addr.fits)

pub offset_bounds-a-addr : goal.offset_bounds-a-addr
offset_bounds-a-addr c = omega (arith, first-in _ _ _ c.requires c.ranges.addr.fits)

pub bounds-a-addr : goal.bounds-a-addr
bounds-a-addr c = first-in _ _ _ c.requires c.ranges.addr.fits

pub returns-then-v1-ge32768 : goal.returns-then-v1-ge32768
returns-then-v1-ge32768 c = search leaf1

pub returns-then-not-opens : goal.returns-then-not-opens
returns-then-not-opens c = search off1

pub cell-v2-requires : goal.cell-v2-requires
cell-v2-requires c =
    chunk-named _ _ _ _ _ c.opens.ensures (ap not c.if-not-opens.false) (search rules) (search rules) (search rules)

pub returns-then-v2-ge32768 : goal.returns-then-v2-ge32768
returns-then-v2-ge32768 c = search leaf2

pub returns-then-not-opens-2 : goal.returns-then-not-opens-2
returns-then-not-opens-2 c = search off2

pub cell-v3-requires : goal.cell-v3-requires
cell-v3-requires c =
    chunk-named _ _ _ _ _ c.opens-2.ensures (ap not c.if-not-opens-2.false) (search rules) (search rules) (search rules)

pub returns-then-v3-ge32768 : goal.returns-then-v3-ge32768
returns-then-v3-ge32768 c = search leaf3

pub returns : goal.returns
returns c = search off3
