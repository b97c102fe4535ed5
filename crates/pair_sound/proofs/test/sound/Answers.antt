-- `pair_sound::test::sound`: the limits, the pools, the other party's own; and where these pass, the calling party's.
use mathlib.Core.Bool.{not}
use mathlib.Core.Path.{ap}
use Rattle.pair_sound.proofs.BoxTold.{pools-ready, sight-kept, scratch-kept, no-fit, no-pools, no-first, no_second, second-told, first-told}
use Rattle.pair.specs.Party.{one, two}
use Rattle.pair_sound.proofs.test.sound.Goals as goal

pub returns-then-not-limits_ok : goal.returns-then-not-limits_ok
returns-then-not-limits_ok c = no-fit _ _ c.requires.both_sized _ c.limits_ok.ensures (ap not c.if-not-limits_ok.true)

pub pools_ok-requires : goal.pools_ok-requires
pools_ok-requires c = pools-ready _ _ c.requires.both_sized

pub returns-then-not-pools_ok : goal.returns-then-not-pools_ok
returns-then-not-pools_ok c = no-pools _ _ c.requires.both_sized _ c.pools_ok.ensures (ap not c.if-not-pools_ok.true)

-- the second party calls
pub party_ok-requires : goal.party_ok-requires
party_ok-requires c =
    let z = c.requires in
    record { sized = z.both_sized.each one; sight = z.sight; scratch = z.scratch }

pub returns-then-not-party_ok : goal.returns-then-not-party_ok
returns-then-not-party_ok c = no-first _ _ c.requires.both_sized _ c.party_ok.ensures.tells (ap not c.if-not-party_ok.true)

pub party_ok-requires-then-guest : goal.party_ok-requires-then-guest
party_ok-requires-then-guest c =
    let z = c.requires in
    record {
      sized = z.both_sized.each two;
      sight = sight-kept z.sight c.party_ok.auto.see2 c.party_ok.auto.see3;
      scratch = scratch-kept z.scratch c.party_ok.auto.ws c.party_ok.auto.par;
    }

pub returns-then-guest : goal.returns-then-guest
returns-then-guest c =
    second-told _ _ c.requires.both_sized _ c.limits_ok.ensures (ap not c.if-not-limits_ok.false) _ c.pools_ok.ensures (ap not c.if-not-pools_ok.false) _ c.party_ok.ensures.tells
    (ap not c.if-not-party_ok.false) _ c.if-guest.true _ _ _ _ _ c.party_ok-then-guest.ensures

-- the first party calls
pub party_ok-requires-2 : goal.party_ok-requires-2
party_ok-requires-2 c =
    let z = c.requires in
    record { sized = z.both_sized.each two; sight = z.sight; scratch = z.scratch }

pub returns-then-not-party_ok-2 : goal.returns-then-not-party_ok-2
returns-then-not-party_ok-2 c = no_second _ _ c.requires.both_sized _ c.party_ok-2.ensures.tells (ap not c.if-not-party_ok-2.true)

pub party_ok-requires-3 : goal.party_ok-requires-3
party_ok-requires-3 c =
    let z = c.requires in
    record {
      sized = z.both_sized.each one;
      sight = sight-kept z.sight c.party_ok-2.auto.see2 c.party_ok-2.auto.see3;
      scratch = scratch-kept z.scratch c.party_ok-2.auto.ws c.party_ok-2.auto.par;
    }

pub returns : goal.returns
returns c =
    first-told _ _ c.requires.both_sized _ c.limits_ok.ensures (ap not c.if-not-limits_ok.false) _ c.pools_ok.ensures (ap not c.if-not-pools_ok.false) _ c.party_ok-2.ensures.tells
    (ap not c.if-not-party_ok-2.false) _ c.if-guest.false _ _ _ _ _ c.party_ok-3.ensures
