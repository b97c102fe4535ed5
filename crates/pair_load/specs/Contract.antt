-- The statement of a party's load, as a predicate on what was given, what is answered (r is the new state, or why there is none) and what is lent at
-- exit (e). It is the call's `ensures`, and that it leaves one answer is shown of it in proofs/OneAnswer.antt.
use Rattle.std.specs.Prelude.{List, ◌≡◌, ℕ, Result}
use Rattle.refusals.specs.declared.Refused.{Refused}
use Rattle.routes.specs.Said.{Said, said_by}
use Rattle.sail_theory.specs.After.{no_values, state_after}
use Rattle.pair.specs.Party.{Party}
use Rattle.pair.specs.PairLent.{PairLent}
use Rattle.pair.specs.PairCalls.{pair_out, pair_loaded}
use Rattle.pair.specs.declared.Pair.{Pair}

-- what it says; a new state has no values
abbrev pub means_loaded_pair : Result Pair Refused → Said
means_loaded_pair = said_by no_values

abbrev pub MeetsPairLoad : Party → Pair → PairLent → List ℕ → Result Pair Refused → PairLent → Type 0
MeetsPairLoad w t b input r e = pair_out (means_loaded_pair r) (state_after t r) e ≡ pair_loaded w t b input
