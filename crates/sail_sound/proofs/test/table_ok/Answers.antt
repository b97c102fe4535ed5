-- `sail_sound::test::table_ok`: levels that fail decide; else the counts do, which rest on them.
use mathlib.Core.Bool.{not}
use mathlib.Core.Path.{ap}
use mathlib.Core.Path.{refl}
use Rattle.bits.proofs.Tells.{passed}
use Rattle.sail_sound.proofs.Sounds.{passed-clear2, countable, levels-fail, counts-tell}
use Rattle.sail_sound.proofs.test.table_ok.Goals as goal

pub returns-then-not-levels_ok : goal.returns-then-not-levels_ok
returns-then-not-levels_ok c = levels-fail _ _ _ _ _ _ _ _ _ _ c.levels_ok.ensures (ap not c.if-not-levels_ok.true)

pub counts_ok-requires : goal.counts_ok-requires
counts_ok-requires c =
    let levels = passed c.levels_ok.ensures (ap not c.if-not-levels_ok.false) in
    record { countable = countable _ _ _ c.requires.celled _ _ c.requires.chain_ready refl _ _ c.requires.counts_beside levels.live; clear = passed-clear2 _ _ _ c.requires.celled levels }

pub returns : goal.returns
returns c = counts-tell _ _ _ _ _ _ _ _ _ _ c.levels_ok.ensures (ap not c.if-not-levels_ok.false) _ c.counts_ok.ensures
