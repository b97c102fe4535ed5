-- `sail_update::judge_update`: each way out has its law.
use mathlib.Core.Bool.{not}
use mathlib.Core.Path.{refl, ap}
use Rattle.std.proofs.lemmas.Result.{err_from_is_err_and}
use Rattle.refusals.proofs.Numbers.{number-above_0}
use Rattle.sail_update.proofs.Judges.{stop-sizes, stop-sound, goes_on}
use Rattle.sail_update.proofs.judge_update.Goals as goal

pub returns-in_err-check_sizes : goal.returns-in_err-check_sizes
returns-in_err-check_sizes c =
    let p = err_from_is_err_and c.from_residual.result c.from_residual.ensures.1 in
    rw (p.1, p.2) (stop-sizes _ _ _ _ _ _ _ _ c.in_err-check_sizes.ensures (number-above_0 _))

pub sound-requires : goal.sound-requires
sound-requires c = record { sized = c.in_ok-check_sizes.ensures.facts refl; scratch = c.requires }

pub returns-then-not-sound : goal.returns-then-not-sound
returns-then-not-sound c = stop-sound _ _ _ _ _ _ _ _ c.in_ok-check_sizes.ensures refl _ c.sound.ensures (ap not c.if-not-sound.true)

pub returns : goal.returns
returns c = goes_on _ _ _ _ _ _ _ _ c.in_ok-check_sizes.ensures refl _ c.sound.ensures (ap not c.if-not-sound.false) _ c.check_message.ensures
