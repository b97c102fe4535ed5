-- An image passes the test exactly when some record input builds it into arrays of these sizes. What passes is built from the routes read
-- out of it, and what a build leaves passes.
use mathlib.Core.Path.{◌≡◌, refl, sym, ◌∙◌, ap, ap₂}
use mathlib.Core.List.{List, [], ◌∷◌}
use mathlib.Core.Bool.{true}
use Prim.Native.Nat.{ℕ, ◌/◌, ◌^◌, ◌≤◌, ◌<◌}
use native.Mathlib.Omega.{arith}
use lib.ListN.{length, get_or}
use borrow.Author.Tests.{le-ltb}
use Rattle.routes.specs.Said.{Said, accepted}
use Rattle.routes.specs.Record.{routes_of, routes_in}
use Rattle.routes.specs.Route.{Good}
use Rattle.routes.specs.declared.Route.{Route}
use Rattle.routes.specs.Cases.{Checked, ragged, stopped, many, good}
use Rattle.routes.proofs.Meaning.{input-checked, good-input}
use Rattle.routes.proofs.Rows.{length-routes, length-written, routes-written, written_listed}
use Rattle.tree_image.specs.Image.{image_of, node_need}
use Rattle.tree_build.specs.Built.{ImageOut, image_out, made_of, after_input, built}
use Rattle.tree_build.proofs.Serves.{built-accepts}
use Rattle.tree_same.specs.Listed.{routes_held}
use Rattle.tree_formed.specs.WellFormed.{nodes_used, well_formed}
use Rattle.tree_formed.specs.Buildable.{input_of, Buildable}
use Rattle.tree_formed.proofs.Meaning.{well-formed-is, is-well-formed}
use Rattle.tree_formed.proofs.Builds.{image-formed}
use Rattle.tree_formed.proofs.Held.{held-good, held-image, held-nodes, held-hops}

-- the input of a good list has its routes
pub input-routes : (rs : List Route) → Good rs → routes_in (input_of rs) ≡ rs
input-routes rs g =
    let d : length (input_of rs) / 8 ≡ length rs = omega (arith, length-written rs (length rs)) in
    ap (routes_of (input_of rs)) d ∙ routes-written rs (length rs) g (omega arith)

-- a good list builds what its routes make
pub input-built : (rs : List Route) (ws hs : List ℕ) → Good rs → length rs ≤ 4096 → built (input_of rs) ws hs ≡ made_of rs ws hs
unfolding built
input-built rs ws hs g few =
    rw (good-input (input_of rs) (length rs) (length-written rs (length rs)) (written_listed rs (length rs) g (omega arith) few).records)
    (ap (λ (x : List Route). made_of x ws hs) (input-routes rs g))

pub made-fits : (rs : List Route) (ws hs : List ℕ) → node_need rs ≤ length ws / 3 → length rs ≤ length hs
    → made_of rs ws hs ≡ image_out (accepted (node_need rs ∷ length rs ∷ [])) (image_of rs (length ws) (length hs)).words
    (image_of rs (length ws) (length hs)).hops
unfolding made_of
made-fits rs ws hs a b = rw (le-ltb (length ws / 3) (node_need rs) a, le-ltb (length hs) (length rs) b) refl

-- (words are of 32 bits by their type)
pub passes-builds : (ws hs : List ℕ) → ((j : ℕ) → get_or ws j 0 < 2 ^ 32) → well_formed ws hs ≡ true → Buildable ws hs
passes-builds ws hs narrow e =
    let w = well-formed-is ws hs e in
    let rs = routes_held ws hs in
    let g = held-good ws hs (nodes_used ws) w narrow in
    let i = held-image ws hs (nodes_used ws) w narrow in
    let k = held-nodes ws hs (nodes_used ws) w narrow in
    let h = held-hops ws hs (nodes_used ws) w narrow in
    record {
      input = input_of (routes_held ws hs);
      nodes = node_need (routes_held ws hs);
      routes = length (routes_held ws hs);
      builds = λ ws₀ hs₀ a b.
          input-built (routes_held ws hs) ws₀ hs₀ g (omega (arith, h, w.few))
          ∙ made-fits (routes_held ws hs) ws₀ hs₀ (omega (arith, k, w.order.lent)) (omega (arith, h, w.room))
          ∙ ap₂ (λ (x y : List ℕ). image_out (accepted (node_need (routes_held ws hs) ∷ length (routes_held ws hs) ∷ [])) x y)
          (ap₂ (λ (x y : ℕ). (image_of (routes_held ws hs) x y).words) a b ∙ sym i.0)
          (ap₂ (λ (x y : ℕ). (image_of (routes_held ws hs) x y).hops) a b ∙ sym i.1);
    }

-- an accepted input has at most 4,096 routes
pub accepted-few : (s ws hs vs : List ℕ) → (built s ws hs).said ≡ accepted vs → length (routes_in s) ≤ 4096
unfolding built
accepted-few s ws hs vs e = go (input-checked s) e
  where
    go : {x : Said} → Checked s x → (after_input x s ws hs).said ≡ accepted vs → length (routes_in s) ≤ 4096
    go (ragged w) f = absurd (let z : ◌≡◌ {A = ℕ} 0 1 = cc in omega arith)
    go (stopped k n w l b x p) f = absurd (let z : ◌≡◌ {A = ℕ} 0 1 = cc in omega arith)
    go (many w a m) f = absurd (let z : ◌≡◌ {A = ℕ} 0 1 = cc in omega arith)
    go (good n w r) f = omega (arith, length-routes s (length s / 8), r.few)

-- what any build leaves passes
pub built-passes : (s ws hs vs : List ℕ) → (built s ws hs).said ≡ accepted vs → well_formed (built s ws hs).words (built s ws hs).hops ≡ true
built-passes s ws hs vs e =
    let k = built-accepts s ws hs vs e in
    rw (k.words, k.hops)
    (is-well-formed _ _ (node_need (routes_in s)) (image-formed (routes_in s) (length ws) (length hs) k.good_routes (accepted-few s ws hs vs e)
    k.nodes_room k.hops_room))

pub builds-passes : (ws hs : List ℕ) → Buildable ws hs → well_formed ws hs ≡ true
builds-passes ws hs b =
    let e = b.builds ws hs refl refl in
    let p = built-passes b.input ws hs (b.nodes ∷ b.routes ∷ []) (ap (λ (o : ImageOut). o.said) e) in
    rw e at p

-- an image passes the test exactly when some record input builds it into arrays of these sizes
pub passes-exactly : (ws hs : List ℕ) → ((j : ℕ) → get_or ws j 0 < 2 ^ 32) → (well_formed ws hs ≡ true → Buildable ws hs) ×
    (Buildable ws hs → well_formed ws hs ≡ true)
passes-exactly ws hs narrow = (passes-builds ws hs narrow, builds-passes ws hs)
