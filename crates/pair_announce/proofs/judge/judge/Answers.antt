-- `pair_announce::judge::judge`. What is wrong with the route alone, then whether the box is sound.
use Rattle.std.specs.Prelude.{refl}
use Rattle.refusals.proofs.Numbers.{number-above_0}
use mathlib.Core.Bool.{not}
use mathlib.Core.Path.{ap}
use Rattle.pair_announce.proofs.Judges.{wrong-route, unsound-box, proper-box}
use Rattle.pair_announce.proofs.judge.judge.Goals as goal

pub returns-in-Err : goal.returns-in-Err
returns-in-Err c = rw c.number.ensures (wrong-route _ _ _ _ c.requires.both_sized _ c.in-Err.ensures (number-above_0 _) _ _ _ _)

pub sound-requires : goal.sound-requires
sound-requires c = record { both_sized = c.requires.both_sized; sight = c.requires.sight; scratch = c.requires.scratch }

pub returns-then-not-sound : goal.returns-then-not-sound
returns-then-not-sound c =
    unsound-box _ _ _ _ c.requires.both_sized _ c.in_default.ensures refl _ _ _ _ _ c.sound.ensures (ap not c.if-not-sound.true)

pub returns : goal.returns
returns c =
    proper-box _ _ _ _ c.requires.both_sized _ c.in_default.ensures refl _ _ _ _ _ c.sound.ensures (ap not c.if-not-sound.false)
