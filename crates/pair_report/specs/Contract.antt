-- The statement of a party's report, as a predicate on what was given and what is answered. It is the call's `ensures`, and that it leaves one answer is
-- shown of it in proofs/OneAnswer.antt.
use Rattle.std.specs.Prelude.{◌≡◌, Result}
use Rattle.sail_sound.specs.Report.{means_reported}
use Rattle.refusals.specs.declared.Refusal.{Refusal}
use Rattle.sail_sound.specs.declared.report.Standing.{Standing}
use Rattle.pair.specs.Party.{Party}
use Rattle.pair.specs.PairLent.{PairLent}
use Rattle.pair.specs.PairCalls.{pair_reported}
use Rattle.pair.specs.declared.Pair.{Pair}

abbrev pub MeetsPairReport : Party → Pair → PairLent → Result Standing Refusal → Type 0
MeetsPairReport w t b r = means_reported r ≡ pair_reported w t b
