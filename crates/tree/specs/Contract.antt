-- The statement of a lookup in an image, as a predicate on what was given and what is answered. It is the call's `ensures`, and that it leaves one
-- answer is shown of it in proofs/OneAnswer.antt.
use Rattle.std.specs.Prelude.{List, ◌≡◌, ℕ, Result}
use Rattle.tree_image.specs.Walk.{tree_said}
use Rattle.refusals.specs.declared.Refusal.{Refusal}
use Rattle.routes.specs.Answers.{means_found}
use Rattle.routes.specs.declared.found.Found.{Found}

abbrev pub MeetsTreeLookup : List ℕ → List ℕ → ℕ → Result Found Refusal → Type 0
MeetsTreeLookup words hops addr r = means_found r ≡ tree_said words hops addr
