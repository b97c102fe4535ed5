-- `sail_sound::test::levels_ok`. All three levels: the live cells, and that the free chunks of both pools are zero.
use mathlib.Core.Bool.{not}
use mathlib.Core.Path.{ap}
use Rattle.sail_sound.proofs.Levels.{chunked2, chunked3, live-fails, free-fails, free-tells}
use Rattle.sail_sound.proofs.test.levels_ok.Goals as goal

pub returns-then-not-live_ok : goal.returns-then-not-live_ok
returns-then-not-live_ok c = live-fails _ _ _ _ _ _ _ _ c.live_ok.ensures (ap not c.if-not-live_ok.true)

pub free_all-requires : goal.free_all-requires
free_all-requires c = chunked2 _ _ _ _ _ _ c.requires.celled

pub returns-then-not-free_all : goal.returns-then-not-free_all
returns-then-not-free_all c = free-fails _ _ _ _ _ _ _ _ c.live_ok.ensures _ c.free_all.ensures (ap not c.if-not-free_all.true)

pub free_all-requires-2 : goal.free_all-requires-2
free_all-requires-2 c = chunked3 _ _ _ _ _ _ c.requires.celled

pub returns : goal.returns
returns c =
    free-tells _ _ _ _ _ _ _ _ c.live_ok.ensures _ c.free_all.ensures (ap not c.if-not-live_ok.false) (ap not c.if-not-free_all.false) _ c.free_all-2.ensures
