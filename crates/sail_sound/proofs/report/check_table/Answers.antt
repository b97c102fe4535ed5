-- `sail_sound::report::check_table`: the sizes come first, then soundness.
use Rattle.std.specs.Prelude.{refl}
use Rattle.std.proofs.lemmas.Result.{err_from_is_err_and}
use borrow.Author.Rules.{rules}
use Rattle.refusals.proofs.Numbers.{number-above_0}
use Rattle.sail_sound.proofs.Reports.{judged-sizes, judged-sound, judged-not}
use Rattle.sail_sound.proofs.report.check_table.Goals as goal

pub returns-in_err-check_sizes : goal.returns-in_err-check_sizes
returns-in_err-check_sizes c =
    let p = err_from_is_err_and c.from_residual.result c.from_residual.ensures.1 in
    rw (p.1, p.2) (judged-sizes _ _ _ c.in_err-check_sizes.ensures (number-above_0 _))

pub sound-requires : goal.sound-requires
sound-requires c = record { sized = c.in_ok-check_sizes.ensures.facts refl; scratch = record { words = search rules; chain = search rules } }

pub returns-then-not-sound : goal.returns-then-not-sound
returns-then-not-sound c = judged-not _ _ _ c.in_ok-check_sizes.ensures refl _ c.sound.ensures.tried c.if-not-sound.true

pub returns : goal.returns
returns c = judged-sound _ _ _ c.in_ok-check_sizes.ensures refl _ c.sound.ensures.tried c.if-not-sound.false
