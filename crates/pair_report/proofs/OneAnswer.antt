-- Two answers that the statement of a party's report allows are the same.
use mathlib.Core.Path.{◌≡◌, sym, ◌∙◌}
use Rattle.std.specs.Prelude.{Result}
use Rattle.refusals.specs.declared.Refusal.{Refusal}
use Rattle.sail_sound.specs.declared.report.Standing.{Standing}
use Rattle.sail_sound.proofs.Reports.{reported-injective}
use Rattle.pair.specs.Party.{Party}
use Rattle.pair.specs.PairLent.{PairLent}
use Rattle.pair.specs.declared.Pair.{Pair}
use Rattle.pair_report.specs.Contract.{MeetsPairReport}

pub one-answer-pair-report : (w : Party) (t : Pair) (b : PairLent) (x y : Result Standing Refusal) → MeetsPairReport w t b x → MeetsPairReport w t b y → x ≡ y
one-answer-pair-report w t b x y p q = reported-injective x y (p ∙ sym q)
