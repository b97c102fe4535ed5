-- `sail_judge::announce::judge_announce`. The number with which the announcement is refused, by the first condition that holds; 0 where it is accepted.
use mathlib.Core.Bool.{not}
use mathlib.Core.Path.{ap, refl, ◌∙◌}
use native.Mathlib.Omega.{arith}
use Rattle.refusals.proofs.Numbers.{number-above_0}
use Rattle.sail_judge.proofs.ChainLeft.{refused-left, sound-left}
use Rattle.sail_judge.proofs.AnnounceJudges.{judge-sizes, judge-route, judge-sound, judge-proper, room-ready, room-judged}
use Rattle.sail_judge.proofs.announce.judge_announce.Goals as goal

pub returns-in-Err : goal.returns-in-Err
returns-in-Err c =
    let number = c.refusal.ensures ∙ c.number.ensures in
    (judge-sizes _ _ _ _ c.in-Err.ensures (number-above_0 _) _ number, refused-left (rw number (number-above_0 _)))

pub returns-in-Err-check_route : goal.returns-in-Err-check_route
returns-in-Err-check_route c =
    let number = c.refusal-in-Err-check_route.ensures ∙ c.number-in-Err-check_route.ensures in
    (judge-route _ _ _ _ c.in_default.ensures refl _ c.in-Err-check_route.ensures (number-above_0 _) _ number, refused-left (rw number (number-above_0 _)))

pub sound-requires : goal.sound-requires
sound-requires c = record { sized = c.in_default.ensures.facts refl; scratch = c.requires }

pub returns-then-not-sound : goal.returns-then-not-sound
returns-then-not-sound c =
    let number = c.refusal-then-not-sound.ensures in (
      judge-sound _ _ _ _ c.in_default.ensures refl _ c.in_default-check_route.ensures refl _
          c.sound.ensures.tried (ap not c.if-not-sound.true) _ number,
      refused-left (λ z. omega arith),
    )

pub judge_room-requires : goal.judge_room-requires
judge_room-requires c =
    room-ready (judge-proper _ _ _ _ c.in_default.ensures refl _ c.in_default-check_route.ensures refl _
    c.sound.ensures.tried (ap not c.if-not-sound.false))

pub returns : goal.returns
returns c = (
  room-judged (judge-proper _ _ _ _ c.in_default.ensures refl _ c.in_default-check_route.ensures refl _
      c.sound.ensures.tried (ap not c.if-not-sound.false)) c.judge_room.ensures,
  sound-left c.sound.ensures (ap not c.if-not-sound.false),
)
