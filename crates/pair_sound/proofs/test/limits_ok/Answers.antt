-- `pair_sound::test::limits_ok`. Sums of two limits of 32 bits, in 64 bits.
use mathlib.Core.Path.{refl}
use native.Mathlib.Omega.{arith}
use Rattle.pair_sound.proofs.BoxTold.{over-second, second_fits}
use Rattle.pair_sound.proofs.test.limits_ok.Goals as goal

pub returns-then-chunks2-one : goal.returns-then-chunks2-one
returns-then-chunks2-one c = over-second _ _ _ _ _ _ c.if-chunks2-one.true

pub returns : goal.returns
returns c = second_fits _ _ _ _ _ _ (λ h. omega (arith, h, c.if-chunks2-one.false)) _ refl
