-- `pair_withdraw::withdraw_sized`. The box is tested; where it is sound, the route is taken out of the side of the party that calls.
use mathlib.Core.Bool.{not}
use mathlib.Core.Path.{ap}
use Rattle.pair_withdraw.proofs.BoxTakings.{box-unsound, second-ready, first-ready, second-done, first_done}
use Rattle.pair_withdraw.proofs.withdraw_sized.Goals as goal

pub sound-requires : goal.sound-requires
sound-requires c = record { both_sized = c.requires.both_sized; sight = c.requires.sight; scratch = c.requires.scratch }

pub returns-then-not-sound : goal.returns-then-not-sound
returns-then-not-sound c =
    let given = c.requires in
    box-unsound c.sound.ensures given.prefix given.both_sized (ap not c.if-not-sound.true)

-- the second party calls
pub withdraw_sound-requires : goal.withdraw_sound-requires
withdraw_sound-requires c = second-ready _ c.sound.ensures (ap not c.if-not-sound.false) c.requires.prefix c.if-guest.true

pub returns-then-guest : goal.returns-then-guest
returns-then-guest c =
    second-done _ c.sound.ensures (ap not c.if-not-sound.false) c.requires.prefix c.if-guest.true c.withdraw_sound.ensures.0

-- the first party calls
pub withdraw_sound-requires-2 : goal.withdraw_sound-requires-2
withdraw_sound-requires-2 c = first-ready _ c.sound.ensures (ap not c.if-not-sound.false) c.requires.prefix c.if-guest.false

pub returns : goal.returns
returns c =
    first_done _ c.sound.ensures (ap not c.if-not-sound.false) c.requires.prefix c.if-guest.false c.withdraw_sound-2.ensures.0
