-- `sail_sound::test::sound`. A list that fails decides; else its words stand at the front of the room that is lent, and the levels and
-- the counts are looked at beside them.
use mathlib.Core.Bool.{not}
use mathlib.Core.Path.{ap}
use Rattle.bits.proofs.Tells.{passed}
use Rattle.sail.proofs.Fitting.{celled-of}
use Rattle.chain.proofs.Fronts.{below_none, front-in, front-count}
use Rattle.sail_sound.proofs.Sounds.{beside-of}
use Rattle.sail_sound.proofs.TableTest.{no-list, table-tried}
use Rattle.sail_sound.proofs.test.sound.Goals as goal

pub returns-then-not-list_ok : goal.returns-then-not-list_ok
returns-then-not-list_ok c = no-list _ _ _ c.list_ok.ensures (ap not c.if-not-list_ok.true)

pub chained_from-requires : goal.chained_from-requires
chained_from-requires c = below_none _ _ _ _ (passed c.list_ok.ensures (ap not c.if-not-list_ok.false)).records c.requires.scratch

pub slice_bounds-table_ok-end : goal.slice_bounds-table_ok-end
slice_bounds-table_ok-end c = front-in c.chained_from.ensures

pub slice_bounds-table_ok-end-2 : goal.slice_bounds-table_ok-end-2
slice_bounds-table_ok-end-2 c = front-count c.chained_from.ensures

pub table_ok-requires : goal.table_ok-requires
table_ok-requires c =
    record {
      chain_ready = c.chained_from.ensures.chained.ready;
      celled = celled-of _ _ c.requires.sized;
      counts_beside = beside-of _ _ c.requires.sized;
    }

pub returns : goal.returns
returns c =
    table-tried _ _ c.requires.sized (passed c.list_ok.ensures (ap not c.if-not-list_ok.false)) c.chained_from.ensures _ c.table_ok.ensures
