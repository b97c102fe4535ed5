-- The statement of make for two parties, as a predicate on what was given, what is answered (r is the new state, or why there is none) and what is
-- lent at exit (e). It is the call's `ensures`, and that it leaves one answer is shown of it in proofs/OneAnswer.antt.
use Rattle.std.specs.Prelude.{◌≡◌, Result}
use Rattle.refusals.specs.declared.Refusal.{Refusal}
use Rattle.routes.specs.Said.{Said, said_plainly}
use Rattle.sail_theory.specs.After.{no_values, state_after}
use Rattle.pair.specs.PairLent.{PairLent}
use Rattle.pair.specs.PairCalls.{pair_out, pair_made}
use Rattle.pair.specs.declared.Pair.{Pair}

-- what it says; a new state has no values
abbrev pub means_made_pair : Result Pair Refusal → Said
means_made_pair = said_plainly no_values

abbrev pub MeetsPairMake : Pair → PairLent → Result Pair Refusal → PairLent → Type 0
MeetsPairMake t b r e = pair_out (means_made_pair r) (state_after t r) e ≡ pair_made t b
