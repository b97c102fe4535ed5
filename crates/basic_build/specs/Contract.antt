-- The statement of a build of bit maps, as a predicate on what was given, what is answered (r), and both arrays at exit (bs, cs). It is the call's
-- `ensures`, and that it leaves one answer is shown of it in proofs/OneAnswer.antt.
use Rattle.std.specs.Prelude.{List, ◌≡◌, ℕ, Result}
use Rattle.refusals.specs.declared.Refused.{Refused}
use Rattle.basic.specs.Calls.{means_basic_answer}
use Rattle.basic_build.specs.Built.{maps_out, basic_built}

abbrev pub MeetsBasicBuild : List ℕ → List ℕ → List ℕ → Result (Unit {0}) Refused → List ℕ → List ℕ → Type 0
MeetsBasicBuild input bits cells r bs cs = maps_out (means_basic_answer r) bs cs ≡ basic_built input bits cells
