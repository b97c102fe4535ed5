-- `pair_announce::announce_sized`. The box is judged, and then the step is taken on the side of the party that calls.
use mathlib.Core.Bool.{false}
use Rattle.pair_state.proofs.Guests.{guest-two, guest-one}
use Rattle.pair_announce.proofs.Answers.{sized-refused, ready_for, taken-for}
use Rattle.pair.specs.Party.{one, two}
use Rattle.pair_announce.proofs.announce_sized.Goals as goal

pub judge-n-requires : goal.judge-n-requires
judge-n-requires c = record { both_sized = c.requires.both_sized; sight = c.requires.sight; scratch = c.requires.scratch }

pub returns-then-n-ne0 : goal.returns-then-n-ne0
returns-then-n-ne0 c = sized-refused _ _ _ _ _ _ _ _ _ c.judge-n.ensures c.if-n-ne0.true false

-- the second party's side
pub announce_sound-requires : goal.announce_sound-requires
announce_sound-requires c = ready_for _ _ _ c.args.guest (c.judge-n.ensures.on c.if-n-ne0.false) two (guest-two _ c.if-guest.true)

pub returns-then-guest : goal.returns-then-guest
returns-then-guest c =
    taken-for _ _ _ c.args.guest (c.judge-n.ensures.on c.if-n-ne0.false) two (guest-two _ c.if-guest.true)
    c.announce_sound.ensures

-- the first party's side
pub announce_sound-requires-2 : goal.announce_sound-requires-2
announce_sound-requires-2 c = ready_for _ _ _ c.args.guest (c.judge-n.ensures.on c.if-n-ne0.false) one (guest-one _ c.if-guest.false)

pub returns : goal.returns
returns c =
    taken-for _ _ _ c.args.guest (c.judge-n.ensures.on c.if-n-ne0.false) one (guest-one _ c.if-guest.false)
    c.announce_sound-2.ensures
