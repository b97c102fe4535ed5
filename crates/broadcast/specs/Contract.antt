-- The statement of a broadcast, as a predicate on what was given and what is answered (r). It is the call's `ensures`, and that it leaves one answer
-- is shown of it in proofs/OneAnswer.antt.
use Rattle.std.specs.Prelude.{Bool, List, ◌≡◌, ℕ, Result}
use Rattle.refusals.specs.declared.Refused.{Refused}
use Rattle.broadcast.specs.Cast.{cast_said, means_cast}

abbrev pub MeetsBroadcast : ℕ → List ℕ → ℕ → Result Bool Refused → Type 0
MeetsBroadcast version input addr r = means_cast r ≡ cast_said version input addr
