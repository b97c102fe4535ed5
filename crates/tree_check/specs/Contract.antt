-- The statement of the test of an image, as a predicate on what was given and what is answered (r). It is the call's `ensures`, and that it leaves
-- one answer is shown of it in proofs/OneAnswer.antt.
use Rattle.std.specs.Prelude.{List, ◌≡◌, ℕ, Result}
use Rattle.tree_formed.specs.Answers.{means_tested, tested}
use Rattle.refusals.specs.declared.Refusal.{Refusal}
use Rattle.tree_image.specs.declared.Used.{Used}

abbrev pub MeetsTreeTest : List ℕ → List ℕ → Result Used Refusal → Type 0
MeetsTreeTest words hops r = means_tested r ≡ tested words hops
