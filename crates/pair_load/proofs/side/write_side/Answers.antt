-- `pair_load::side::write_side`. The party's chunks are closed, those of the input's routes opened, and the routes laid over them: each step's demands, and
-- the side that is left, are the facts of a side of a sound box.
use mathlib.Core.Path.{sym, ◌∙◌}
use Rattle.pair.specs.Party.{party_of}
use Rattle.pair_load.proofs.SideWrites.{write-facts, top-between, top-opened}
use Rattle.pair_load.proofs.side.write_side.Goals as goal

pub clear_side-requires : goal.clear_side-requires
clear_side-requires c = record { clear_ready = (write-facts _ _ _ _ c.requires.load_ready).clear; sight = c.requires.sight }

pub open_between-requires : goal.open_between-requires
open_between-requires c =
    top-between (party_of c.args.guest) _ _ _ _ _ c.top_of.ensures ((write-facts _ _ _ _ c.requires.load_ready).opens c.clear_side.ensures)

pub view-requires : goal.view-requires
view-requires c = c.clear_side.auto.see2 ∙ c.requires.sight.room2 ∙ sym (c.open_between.auto.own2 ∙ c.clear_side.auto.own2)

pub view-requires-2 : goal.view-requires-2
view-requires-2 c =
    c.clear_side.auto.see3 ∙ c.requires.sight.room3
    ∙ sym (c.open_between.auto.own3 ∙ c.clear_side.auto.own3)

pub lay-requires : goal.lay-requires
lay-requires c =
    (write-facts _ _ _ _ c.requires.load_ready).lays c.clear_side.ensures
    (top-opened (party_of c.args.guest) _ _ _ _ _ c.top_of.ensures c.open_between.ensures)
    c.view.ensures c.view-2.ensures

pub returns : goal.returns
returns c =
    (write-facts _ _ _ _ c.requires.load_ready).ends c.clear_side.ensures
    (top-opened (party_of c.args.guest) _ _ _ _ _ c.top_of.ensures c.open_between.ensures)
    c.view.ensures c.view-2.ensures c.lay.ensures
