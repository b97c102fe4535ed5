-- The statements of announce and withdraw on an image, as predicates on what was given, what is answered (r), and both arrays at exit (ws, hs). Each is
-- its call's `ensures`, and that it leaves one answer is shown of it in proofs/OneAnswer.antt.
use Rattle.std.specs.Prelude.{List, ◌≡◌, ℕ, Result}
use Rattle.tree_build.specs.Built.{image_out}
use Rattle.tree_theory.specs.Changed.{means_tree_announced, means_tree_withdrawn, image_announced, image_withdrawn}
use Rattle.refusals.specs.declared.Refusal.{Refusal}
use Rattle.tree_image.specs.declared.Used.{Used}
use Rattle.tree_theory.specs.declared.Announced.{Announced}

abbrev pub MeetsTreeAnnounce : List ℕ → List ℕ → ℕ → ℕ → ℕ → Result Announced Refusal → List ℕ → List ℕ → Type 0
MeetsTreeAnnounce words hops addr len hop r ws hs = image_out (means_tree_announced r) ws hs ≡ image_announced words hops addr len hop

abbrev pub MeetsTreeWithdraw : List ℕ → List ℕ → ℕ → ℕ → Result Used Refusal → List ℕ → List ℕ → Type 0
MeetsTreeWithdraw words hops addr len r ws hs = image_out (means_tree_withdrawn r) ws hs ≡ image_withdrawn words hops addr len
