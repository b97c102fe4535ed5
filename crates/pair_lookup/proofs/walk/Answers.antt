-- `pair_lookup::walk`: a law for each cell that it may end at.
use mathlib.Core.Bool.{not}
use mathlib.Core.Path.{ap}
use borrow.Author.Rules.{rules}
use native.Mathlib.Omega.{arith}
use Rattle.pair.specs.Party.{party_of}
use Rattle.sail.proofs.Steps.{walk-leaf1, walk-off1, walk-leaf2, walk-off2, walk-leaf3, walk-off3}
use Rattle.pair_lookup.proofs.Looks.{open-chunk, first-there}
use Rattle.pair_lookup.proofs.walk.Goals as goal

pub overflow_cast-v1 : goal.overflow_cast-v1
overflow_cast-v1 c = omega (arith, first-there _ _ _ _ _ _ _ c.requires c.ranges.addr.fits)

pub offset_bounds-first-addr : goal.offset_bounds-first-addr
offset_bounds-first-addr c = omega (arith, first-there _ _ _ _ _ _ _ c.requires c.ranges.addr.fits)

pub bounds-first-addr : goal.bounds-first-addr
bounds-first-addr c = first-there _ _ _ _ _ _ _ c.requires c.ranges.addr.fits

pub returns-then-v1-ge32768 : goal.returns-then-v1-ge32768
returns-then-v1-ge32768 c = search walk-leaf1

pub returns-then-not-opens_to : goal.returns-then-not-opens_to
returns-then-not-opens_to c = search walk-off1

pub cell-v2-requires : goal.cell-v2-requires
cell-v2-requires c =
    open-chunk (party_of c.args.guest) c.args.own2.now _ _ _ _ c.opens_to.ensures (ap not c.if-not-opens_to.false)
    (search rules) (search rules) (search rules)

pub returns-then-v2-ge32768 : goal.returns-then-v2-ge32768
returns-then-v2-ge32768 c = search walk-leaf2

pub returns-then-not-opens_to-2 : goal.returns-then-not-opens_to-2
returns-then-not-opens_to-2 c = search walk-off2

pub cell-v3-requires : goal.cell-v3-requires
cell-v3-requires c =
    open-chunk (party_of c.args.guest) c.args.own3.now _ _ _ _ c.opens_to-2.ensures (ap not c.if-not-opens_to-2.false)
    (search rules) (search rules) (search rules)

pub returns-then-v3-ge32768 : goal.returns-then-v3-ge32768
returns-then-v3-ge32768 c = search walk-leaf3

pub returns : goal.returns
returns c = search walk-off3
