-- What a build answers, and what the two arrays then hold.
use Rattle.std.specs.Prelude.{Result, cond, List, [], ◌∷◌, ℕ, ◌/◌, ltb, length}
use Rattle.routes.specs.Record.{routes_in}
use Rattle.routes.specs.Input.{input_said}
use Rattle.refusals.specs.declared.Refused.{Refused}
use Rattle.routes.specs.Said.{Said, accepted, refused, refused_at, said_by}
use Rattle.routes.specs.declared.Route.{Route}
use Rattle.tree_image.specs.Image.{image_of, node_need}
use Rattle.tree_image.specs.Reads.{used_values}
use Rattle.tree_image.specs.declared.Used.{Used}

-- document 01's number and values for each answer: the nodes and the hops used
abbrev pub means_built : Result Used Refused → Said
means_built = said_by used_values

-- what is told, and what the words and the hops are at the end
pub record ImageOut : Type 0 where
  pub said : Said
  pub words : List ℕ
  pub hops : List ℕ

abbrev pub image_out : Said → List ℕ → List ℕ → ImageOut
image_out x ws hs = record { said = x; words = ws; hops = hs }

-- good routes into the words ws and the hops hs: 11 for too few whole nodes, 12 for too few hops, and the arrays as they were;
-- otherwise the image in arrays of these sizes
unfoldable pub made_of : List Route → List ℕ → List ℕ → ImageOut
made_of rs ws hs =
    cond (ltb (length ws / 3) (node_need rs)) (image_out (refused 11) ws hs)
    (cond (ltb (length hs) (length rs)) (image_out (refused 12) ws hs)
    (image_out (accepted (node_need rs ∷ length rs ∷ [])) (image_of rs (length ws) (length hs)).words (image_of rs (length ws) (length hs)).hops))

-- the input's refusals come first, and leave the arrays as they were
abbrev pub after_input : Said → List ℕ → List ℕ → List ℕ → ImageOut
after_input (accepted vs) s ws hs = made_of (routes_in s) ws hs
after_input (refused n) s ws hs = image_out (refused n) ws hs
after_input (refused_at n k) s ws hs = image_out (refused_at n k) ws hs

unfoldable pub built : List ℕ → List ℕ → List ℕ → ImageOut
built s ws hs = after_input (input_said s) s ws hs
