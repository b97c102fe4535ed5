-- `sail_sound::seen::cells_seen_ok`: live cells that fail decide; else the counts do, which rest on them.
use mathlib.Core.Bool.{not}
use mathlib.Core.Path.{ap}
use mathlib.Core.Path.{refl}
use Rattle.bits.proofs.Tells.{passed}
use Rattle.sail_sound.proofs.Sounds.{countable}
use Rattle.sail_sound.proofs.SeenTest.{seen-fails, seen-tells}
use Rattle.sail_sound.proofs.seen.cells_seen_ok.Goals as goal

pub returns-then-not-live_ok : goal.returns-then-not-live_ok
returns-then-not-live_ok c = seen-fails _ _ _ _ _ _ _ _ _ _ c.live_ok.ensures (ap not c.if-not-live_ok.true)

pub deep_counts_ok-requires : goal.deep_counts_ok-requires
deep_counts_ok-requires c =
    countable _ _ _ c.requires.celled _ _ c.requires.chain_ready refl _ _ c.requires.counts_beside (passed c.live_ok.ensures (ap not c.if-not-live_ok.false))

pub returns : goal.returns
returns c = seen-tells _ _ _ _ _ _ _ _ _ _ c.live_ok.ensures (ap not c.if-not-live_ok.false) _ c.deep_counts_ok.ensures
