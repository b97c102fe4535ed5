-- `pair_sound::parts::party_ok`: the owners as the party sees them, how many chunks it uses, and then its table among others.
use native.Mathlib.Omega.{arith}
use Rattle.pair_sound.proofs.PartsTold.{seen-sized, over2, over3, within}
use Rattle.pair_sound.proofs.parts.party_ok.Goals as goal

pub view-requires : goal.view-requires
view-requires c = c.requires.sight.room2

pub view-requires-2 : goal.view-requires-2
view-requires-2 c = c.requires.sight.room3

pub in_use-requires : goal.in_use-requires
in_use-requires c =
    let z = c.requires in
    omega (arith, z.sized.few2, z.sight.room2, c.view.auto.out)

pub returns-then-most2-in_use : goal.returns-then-most2-in_use
returns-then-most2-in_use c = over2 _ _ _ _ _ _ _ c.view.ensures c.view-2.ensures _ c.in_use.ensures c.if-most2-in_use.true _ _

pub in_use-requires-2 : goal.in_use-requires-2
in_use-requires-2 c =
    let z = c.requires in
    omega (arith, z.sized.few3, z.sight.room3, c.view-2.auto.out)

pub returns-then-most3-in_use : goal.returns-then-most3-in_use
returns-then-most3-in_use c = over3 _ _ _ _ _ _ _ c.view.ensures c.view-2.ensures _ c.in_use-2.ensures c.if-most3-in_use.true _ _

pub seen_ok-requires : goal.seen_ok-requires
seen_ok-requires c =
    let z = c.requires in
    record { sized = seen-sized _ _ _ z.sized _ _ c.view.ensures c.view-2.ensures; scratch = z.scratch }

pub returns : goal.returns
returns c =
    within _ _ _ _ _ _ _ c.view.ensures c.view-2.ensures _ c.in_use.ensures c.if-most2-in_use.false _ c.in_use-2.ensures c.if-most3-in_use.false _ _ _
    c.seen_ok.ensures
