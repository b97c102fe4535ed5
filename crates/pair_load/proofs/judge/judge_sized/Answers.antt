-- `pair_load::judge::judge_sized`. In a sound box the input is judged by the party's own room and limits.
use mathlib.Core.Bool.{not}
use mathlib.Core.Path.{ap}
use Rattle.routes.specs.Said.{said_by}
use Rattle.pair_load.proofs.Judges.{valid-box, says-unsound, says_second, says_first}
use Rattle.pair_load.proofs.judge.judge_sized.Goals as goal

pub sound-requires : goal.sound-requires
sound-requires c = record { both_sized = c.requires.both_sized; sight = c.requires.sight; scratch = c.requires.scratch }

pub returns-then-not-sound : goal.returns-then-not-sound
unfolding said_by
returns-then-not-sound c = rw c.into.ensures (says-unsound _ _ _ _ _ c.sound.ensures (ap not c.if-not-sound.true))

pub judge_input-requires : goal.judge_input-requires
judge_input-requires c = valid-box _ _ c.requires.both_sized

pub returns-then-guest : goal.returns-then-guest
returns-then-guest c =
    says_second _ _ _ _ _ c.sound.ensures (ap not c.if-not-sound.false) _ c.share_of-share.ensures _ c.if-guest.true c.judge_input.ensures

pub judge_input-requires-2 : goal.judge_input-requires-2
judge_input-requires-2 c = valid-box _ _ c.requires.both_sized

pub returns : goal.returns
returns c =
    says_first _ _ _ _ _ c.sound.ensures (ap not c.if-not-sound.false) _ c.share_of-share.ensures _ c.if-guest.false c.judge_input-2.ensures
