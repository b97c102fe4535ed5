-- The statement of a build, as a predicate on what was given, what is answered (r), and both arrays at exit (ws, hs). It is the call's `ensures`, and
-- that it leaves one answer is shown of it in proofs/OneAnswer.antt.
use Rattle.std.specs.Prelude.{List, ◌≡◌, ℕ, Result}
use Rattle.tree_build.specs.Built.{means_built, image_out, built}
use Rattle.tree_image.specs.declared.Used.{Used}
use Rattle.refusals.specs.declared.Refused.{Refused}

abbrev pub MeetsBuild : List ℕ → List ℕ → List ℕ → Result Used Refused → List ℕ → List ℕ → Type 0
MeetsBuild input words hops r ws hs = image_out (means_built r) ws hs ≡ built input words hops
