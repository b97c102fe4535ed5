-- What a build can say, case by case and in document 01's order, each with all that then holds (`refused-number-build`); and what an accepted build
-- leaves (`built-accepts`).
use Rattle.std.specs.Prelude.{List, [], ◌∷◌, ◌≡◌, ℕ, ◌*◌, ◌/◌, ◌≤◌, ◌<◌, length}
use Rattle.routes.specs.Route.{Good}
use Rattle.routes.specs.Record.{routes_in}
use Rattle.routes.specs.Cases.{BadInput, Passes}
use Rattle.routes.specs.Said.{Said, accepted, refused}
use Rattle.routes.specs.declared.Route.{Route}
use Rattle.tree_image.specs.Image.{image_of, node_need}
use Rattle.tree_build.specs.Built.{ImageOut}

-- the input's with its index, 6, 11, 12
pub data Build (s ws hs : List ℕ) : Said → Type 0 where
  bad_input : (x : Said) → BadInput s x → Build s ws hs x
  few_nodes : (n : ℕ) → Passes s n → length ws / 3 < node_need (routes_in s) → Build s ws hs (refused 11)
  few_hops : (n : ℕ) → Passes s n → node_need (routes_in s) ≤ length ws / 3 → length hs < length (routes_in s) → Build s ws hs (refused 12)
  done : (n : ℕ) → Passes s n → node_need (routes_in s) ≤ length ws / 3 → length (routes_in s) ≤ length hs → Build s ws hs
      (accepted (node_need (routes_in s) ∷ length (routes_in s) ∷ []))

-- an accepted build of these routes: they are good, there is room, and the arrays hold their image
pub record AcceptedBuild (rs : List Route) (ws hs vs : List ℕ) (o : ImageOut) : Type 0 where
  pub good_routes : Good rs
  pub values : vs ≡ node_need rs ∷ length rs ∷ []
  pub nodes_room : 3 * node_need rs ≤ length ws
  pub hops_room : length rs ≤ length hs
  pub words : o.words ≡ (image_of rs (length ws) (length hs)).words
  pub hops : o.hops ≡ (image_of rs (length ws) (length hs)).hops
