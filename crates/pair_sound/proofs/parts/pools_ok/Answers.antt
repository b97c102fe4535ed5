-- `pair_sound::parts::pools_ok`: what fails first decides.
use mathlib.Core.Bool.{not}
use mathlib.Core.Path.{ap}
use Rattle.pair_sound.proofs.PartsTold.{stray2, stray3, dirty2, dirty3, pools-told}
use Rattle.pair_sound.proofs.parts.pools_ok.Goals as goal

pub returns-then-not-nobodys_ok : goal.returns-then-not-nobodys_ok
returns-then-not-nobodys_ok c = stray2 _ _ _ _ _ _ _ c.nobodys_ok.ensures (ap not c.if-not-nobodys_ok.true)

pub returns-then-not-nobodys_ok-2 : goal.returns-then-not-nobodys_ok-2
returns-then-not-nobodys_ok-2 c = stray3 _ _ _ _ _ _ _ c.nobodys_ok.ensures _ c.nobodys_ok-2.ensures (ap not c.if-not-nobodys_ok-2.true)

pub free_all-requires : goal.free_all-requires
free_all-requires c = c.requires.chunked2

pub returns-then-not-free_all : goal.returns-then-not-free_all
returns-then-not-free_all c =
    dirty2 _ _ _ _ _ _ _ c.nobodys_ok.ensures _ c.nobodys_ok-2.ensures _ c.free_all.ensures (ap not c.if-not-free_all.true)

pub free_all-requires-2 : goal.free_all-requires-2
free_all-requires-2 c = c.requires.chunked3

pub returns-then-not-free_all-2 : goal.returns-then-not-free_all-2
returns-then-not-free_all-2 c =
    dirty3 _ _ _ _ _ _ _ c.nobodys_ok.ensures _ c.nobodys_ok-2.ensures _ c.free_all.ensures _ c.free_all-2.ensures (ap not c.if-not-free_all-2.true)

pub idle_ok-requires : goal.idle_ok-requires
idle_ok-requires c = c.requires.counts

pub returns : goal.returns
returns c =
    pools-told _ _ _ _ _ _ _ c.nobodys_ok.ensures _ c.nobodys_ok-2.ensures _ c.free_all.ensures _ c.free_all-2.ensures (ap not c.if-not-nobodys_ok.false)
    (ap not c.if-not-nobodys_ok-2.false) (ap not c.if-not-free_all.false) (ap not c.if-not-free_all-2.false) _ c.idle_ok.ensures
