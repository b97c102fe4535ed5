-- `pair_report::report_sized`. In a sound box a party uses as many chunks as its routes need.
use mathlib.Core.Bool.{not}
use mathlib.Core.Path.{ap}
use native.Mathlib.Omega.{arith}
use Rattle.routes.specs.Said.{said_plainly}
use Rattle.pair_report.proofs.Reports.{few-chunks, unsound, standing-told}
use Rattle.pair_report.proofs.report_sized.Goals as goal

pub sound-requires : goal.sound-requires
sound-requires c = record { both_sized = c.requires.both_sized; sight = c.requires.sight; scratch = c.requires.scratch }

pub returns-then-not-sound : goal.returns-then-not-sound
unfolding said_plainly
returns-then-not-sound c = unsound _ _ _ _ _ _ _ _ c.sound.ensures (ap not c.if-not-sound.true)

pub in_use-requires : goal.in_use-requires
in_use-requires c =
    let z = c.requires in
    omega (arith, (few-chunks _ _ z.both_sized).0, z.sight.room2, c.sound.auto.see2)

pub in_use-requires-2 : goal.in_use-requires-2
in_use-requires-2 c =
    let z = c.requires in
    omega (arith, (few-chunks _ _ z.both_sized).1, z.sight.room3, c.sound.auto.see3)

pub returns : goal.returns
unfolding said_plainly
returns c =
    standing-told _ _ _ _ _ _ _ _ c.sound.ensures (ap not c.if-not-sound.false) _ _ _ c.count.ensures c.in_use.ensures c.in_use-2.ensures
