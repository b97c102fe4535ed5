-- What the test of an image says: the nodes and the hops in use of a well-formed image, and 13 of any other content.
use Rattle.std.specs.Prelude.{Result, cond, List, [], ◌∷◌, ℕ}
use Rattle.refusals.specs.declared.Refusal.{Refusal}
use Rattle.routes.specs.Said.{Said, accepted, refused, said_plainly}
use Rattle.tree_image.specs.Reads.{used_values}
use Rattle.tree_image.specs.declared.Used.{Used}
use Rattle.tree_formed.specs.WellFormed.{nodes_used, hops_in, well_formed}

-- document 01's number and values for each answer
abbrev pub means_tested : Result Used Refusal → Said
means_tested = said_plainly used_values

unfoldable pub tested : List ℕ → List ℕ → Said
tested ws hs = cond (well_formed ws hs) (accepted (nodes_used ws ∷ hops_in ws ∷ [])) (refused 13)
