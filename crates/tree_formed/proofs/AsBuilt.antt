-- What the test says in terms of a build: of an image that some record input builds, the nodes and the routes that the build told, and 13 of any
-- other. Such an image holds the input's routes, marks aside.
use mathlib.Core.Path.{◌≡◌, refl, sym, ◌∙◌, ap, ap₂}
use mathlib.Core.Bool.{true}
use mathlib.Core.List.{List, [], ◌∷◌, map}
use Prim.Native.Nat.{ℕ, ◌*◌, ◌^◌, ◌≤◌, ◌<◌}
use native.Mathlib.Omega.{arith}
use lib.ListN.{length, get_or}
use Rattle.bits.proofs.Bools.{untrue}
use Rattle.routes.specs.Record.{routes_in}
use Rattle.routes.specs.Route.{plain, Good}
use Rattle.routes.specs.Said.{accepted, refused}
use Rattle.routes.specs.declared.Route.{Route}
use Rattle.tree_image.specs.Image.{node_stands, hop_for, image_of, node_need}
use Rattle.tree_image.proofs.Needs.{hops-need}
use Rattle.tree_build.specs.Built.{ImageOut, built}
use Rattle.tree_build.proofs.Serves.{built-accepts}
use Rattle.tree_same.specs.Order.{ints}
use Rattle.tree_same.specs.Listed.{routes_held}
use Rattle.tree_same.proofs.Holdings.{hops-are, image-holding}
use Rattle.tree_same.proofs.Same.{fits, image-held}
use Rattle.tree_formed.specs.Answers.{tested}
use Rattle.tree_formed.specs.Buildable.{Buildable}
use Rattle.tree_formed.specs.WellFormed.{nodes_used, well_formed}
use Rattle.tree_formed.proofs.Meaning.{well-formed-is, is-well-formed, is-ordered}
use Rattle.tree_formed.proofs.Builds.{image-formed}
use Rattle.tree_formed.proofs.Held.{held-good}
use Rattle.tree_formed.proofs.Exact.{accepted-few, passes-builds}

-- the image of a good list that fits
module _ (rs : List Route) (g : Good rs) (w h : ℕ) (few : length rs ≤ 4096) (room : 3 * node_need rs ≤ w) (space : length rs ≤ h) where
  image-hops : ints (image_of rs w h).words (node_need rs) ≡ length rs
  image-hops =
      hops-are (node_stands rs) (hop_for rs) _ _ (node_need rs) (fits rs g).agree.nine
      (image-holding (node_stands rs) (hop_for rs) (fits rs g) w h room (omega (arith, hops-need rs g)))
      ∙ hops-need rs g

  image-tested : tested (image_of rs w h).words (image_of rs w h).hops ≡ accepted (node_need rs ∷ length rs ∷ [])
  unfolding tested
  image-tested =
      let f = image-formed rs w h g few room space in
      let o = (is-ordered (image_of rs w h).words (node_need rs) f.order).0 in
      rw (is-well-formed _ _ (node_need rs) f)
      (ap₂ (λ (x y : ℕ). accepted (x ∷ y ∷ [])) o (ap (ints (image_of rs w h).words) o ∙ image-hops))

-- what a build leaves is told as the build told it
pub test-as-build : (s ws hs vs : List ℕ) → (built s ws hs).said ≡ accepted vs → tested (built s ws hs).words (built s ws hs).hops ≡ accepted vs
test-as-build s ws hs vs e =
    let k = built-accepts s ws hs vs e in
    ap₂ tested k.words k.hops
    ∙ image-tested (routes_in s) k.good_routes (length ws) (length hs) (accepted-few s ws hs vs e) k.nodes_room k.hops_room ∙ ap accepted
    (sym k.values)

module _ (ws hs : List ℕ) where
  pub buildable-told : (b : Buildable ws hs) → tested ws hs ≡ accepted (b.nodes ∷ b.routes ∷ [])
  buildable-told b =
      let e = b.builds ws hs refl refl in
      let p = test-as-build b.input ws hs (b.nodes ∷ b.routes ∷ []) (ap (λ (o : ImageOut). o.said) e) in
      rw e at p

  -- it holds the routes of that input
  pub buildable-holds : (b : Buildable ws hs) → routes_held ws hs ≡ map plain (routes_in b.input)
  buildable-holds b =
      let e = b.builds ws hs refl refl in
      let k = built-accepts b.input ws hs (b.nodes ∷ b.routes ∷ []) (ap (λ (o : ImageOut). o.said) e) in
      ap (λ (o : ImageOut). routes_held o.words o.hops) (sym e) ∙ ap₂ routes_held k.words k.hops
      ∙ image-held (routes_in b.input) (length ws) (length hs) k.good_routes k.nodes_room k.hops_room

  -- (words are of 32 bits by their type)
  module _ (narrow : (j : ℕ) → get_or ws j 0 < 2 ^ 32) where
    pub unbuildable-told : (Buildable ws hs → ⊥) → tested ws hs ≡ refused 13
    unfolding tested
    unbuildable-told n = rw (untrue (well_formed ws hs) (λ t. n (passes-builds ws hs narrow t))) refl

    pub formed-good : well_formed ws hs ≡ true → Good (routes_held ws hs)
    formed-good formed = held-good ws hs (nodes_used ws) (well-formed-is ws hs formed) narrow
