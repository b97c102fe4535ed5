-- `sail_sound::seen::seen_ok`. A list that fails decides; else its words stand at the front of the room that is lent, and the levels and
-- the counts are looked at beside them.
use mathlib.Core.Bool.{not}
use mathlib.Core.Path.{ap}
use Rattle.bits.proofs.Tells.{passed}
use Rattle.sail.proofs.Fitting.{celled-of}
use Rattle.chain.proofs.Fronts.{below_none, front-in, front-count}
use Rattle.sail_sound.proofs.Sounds.{beside-of}
use Rattle.sail_sound.proofs.SeenTest.{no-seen-list, seen-tried}
use Rattle.sail_sound.proofs.seen.seen_ok.Goals as goal

pub returns-then-not-list_ok : goal.returns-then-not-list_ok
returns-then-not-list_ok c = no-seen-list _ _ _ c.list_ok.ensures (ap not c.if-not-list_ok.true)

pub chained_from-requires : goal.chained_from-requires
chained_from-requires c = below_none _ _ _ _ (passed c.list_ok.ensures (ap not c.if-not-list_ok.false)).records c.requires.scratch

pub slice_bounds-cells_seen_ok-end : goal.slice_bounds-cells_seen_ok-end
slice_bounds-cells_seen_ok-end c = front-in c.chained_from.ensures

pub slice_bounds-cells_seen_ok-end-2 : goal.slice_bounds-cells_seen_ok-end-2
slice_bounds-cells_seen_ok-end-2 c = front-count c.chained_from.ensures

pub cells_seen_ok-requires : goal.cells_seen_ok-requires
cells_seen_ok-requires c =
    record {
      chain_ready = c.chained_from.ensures.chained.ready;
      celled = celled-of _ _ c.requires.sized;
      counts_beside = beside-of _ _ c.requires.sized;
    }

pub returns : goal.returns
returns c =
    seen-tried _ _ c.requires.sized (passed c.list_ok.ensures (ap not c.if-not-list_ok.false)) c.chained_from.ensures _ c.cells_seen_ok.ensures
