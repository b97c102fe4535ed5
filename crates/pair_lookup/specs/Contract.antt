-- The statement of a party's lookup, as a predicate on what was given and what is answered. It is the call's `ensures`, and that it leaves one answer is
-- shown of it in proofs/OneAnswer.antt.
use Rattle.std.specs.Prelude.{◌≡◌, ℕ, Result}
use Rattle.routes.specs.Answers.{means_found}
use Rattle.refusals.specs.declared.Refusal.{Refusal}
use Rattle.routes.specs.declared.found.Found.{Found}
use Rattle.pair.specs.Party.{Party}
use Rattle.pair.specs.PairLent.{PairLent}
use Rattle.pair.specs.PairCalls.{pair_lookup_said}
use Rattle.pair.specs.declared.Pair.{Pair}

abbrev pub MeetsPairLookup : Party → Pair → PairLent → ℕ → Result Found Refusal → Type 0
MeetsPairLookup w t b addr r = means_found r ≡ pair_lookup_said w t b addr
