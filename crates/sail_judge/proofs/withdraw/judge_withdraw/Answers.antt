-- `sail_judge::withdraw::judge_withdraw`. The number with which the withdrawal is refused, by the first condition that holds; 0 where it is accepted.
use mathlib.Core.Bool.{not}
use mathlib.Core.Path.{ap, refl}
use native.Mathlib.Omega.{arith}
use Rattle.refusals.proofs.Numbers.{number-above_0}
use Rattle.sail_sound.proofs.TableTest.{tried-sound}
use Rattle.sail_judge.proofs.ChainLeft.{refused-left, sound-left}
use Rattle.sail_judge.proofs.WithdrawJudges.{leave-sizes, leave-prefix, leave-sound, leave-found}
use Rattle.sail_judge.proofs.withdraw.judge_withdraw.Goals as goal

pub returns-in-Err : goal.returns-in-Err
returns-in-Err c = let number = c.number.ensures in
    rw number (leave-sizes _ _ _ _ _ c.in-Err.ensures (number-above_0 _), refused-left (number-above_0 _))

pub returns-then-not-prefix_ok : goal.returns-then-not-prefix_ok
returns-then-not-prefix_ok c = (
  leave-prefix _ _ _ _ _ c.in_default.ensures refl _ c.prefix_ok.ensures (ap not c.if-not-prefix_ok.true),
  refused-left (λ z. omega arith),
)

pub sound-requires : goal.sound-requires
sound-requires c = record { sized = c.in_default.ensures.facts refl; scratch = c.requires }

pub returns-then-not-sound : goal.returns-then-not-sound
returns-then-not-sound c = (
  leave-sound _ _ _ _ _ c.in_default.ensures refl _ c.prefix_ok.ensures (ap not c.if-not-prefix_ok.false) _
      c.sound.ensures.tried (ap not c.if-not-sound.true),
  refused-left (λ z. omega arith),
)

pub find_record-requires : goal.find_record-requires
find_record-requires c = (tried-sound _ _ _ c.sound.ensures.tried (ap not c.if-not-sound.false)).listed.records

pub returns : goal.returns
returns c = (
  leave-found _ _ _ _ _ c.in_default.ensures refl _ c.prefix_ok.ensures (ap not c.if-not-prefix_ok.false) _
      c.sound.ensures.tried (ap not c.if-not-sound.false) _ c.find_record.ensures,
  sound-left c.sound.ensures (ap not c.if-not-sound.false),
)
