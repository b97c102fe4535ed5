-- One image for one set of routes, over runs: two runs on built images in arrays of equal lengths end in equal arrays exactly when the routes then
-- standing are the same, in whichever order they came. In arrays of other lengths this holds of the part that is used.
use mathlib.Core.Path.{◌≡◌, sym, ◌∙◌, ap, ap₂}
use mathlib.Core.Logic.{◌↔◌}
use mathlib.Core.Bool.{true}
use mathlib.Core.List.{List, map}
use Prim.Native.Nat.{ℕ, ◌*◌, ◌^◌, ◌<◌}
use lib.ListN.{length, get_or, take}
use Rattle.routes.specs.Record.{routes_in}
use Rattle.routes.specs.Route.{plain}
use Rattle.routes.specs.declared.Route.{Route}
use Rattle.standing.specs.Standing.{route_at}
use Rattle.standing.proofs.Standing.{same-standing}
use Rattle.tree_image.specs.Image.{node_need, image_of}
use Rattle.tree_build.specs.Built.{ImageOut, built}
use Rattle.tree_same.specs.Listed.{routes_held}
use Rattle.tree_same.specs.OneImage.{Builds, SameArrays, SameUsed}
use Rattle.tree_same.proofs.OneImage.{used-part-same}
use Rattle.tree_formed.specs.Buildable.{input_of}
use Rattle.tree_formed.specs.WellFormed.{nodes_used, well_formed}
use Rattle.tree_formed.proofs.Meaning.{well-formed-is}
use Rattle.tree_formed.proofs.Held.{held-image}
use Rattle.tree_formed.proofs.Exact.{input-routes, input-built, made-fits}
use Rattle.tree_theory.specs.Cases.{ImageLeft}
use Rattle.tree_theory.proofs.Fresh.{change-as-build}
use Rattle.tree_runs.specs.ImageRuns.{ImageCall, image_after, image_standing_after, image_held_by_calls}
use Rattle.tree_runs.proofs.ImageRuns.{image-run, image-run-standing}

-- what a run leaves is what a build of the routes then standing leaves
module _ {rs : List Route} {ws hs : List ℕ} {o : ImageOut} (l : ImageLeft rs ws hs o) where
  builds : Builds (input_of rs) ws hs (node_need rs) (length rs)
  builds = record {
    said = ap (λ (x : ImageOut). x.said) (input-built rs ws hs l.fit.good l.fit.few ∙ made-fits rs ws hs l.fit.nodes l.fit.hops);
  }

  its-routes : map plain (routes_in (input_of rs)) ≡ rs
  its-routes = ap (map plain) (input-routes rs l.fit.good) ∙ l.unmarked

-- the used part of arrays is that of equal ones
used-as : (n k : ℕ) (o o' p p' : ImageOut) → SameArrays o o' → SameArrays p p' → SameUsed n k o p → SameUsed n k o' p'
used-as n k o o' p p' x y e = (
  sym (ap (take (3 * n)) x.0) ∙ e.0 ∙ ap (take (3 * n)) y.0,
  sym (ap (take k) x.1) ∙ e.1 ∙ ap (take k) y.1,
)

module _ (s ws hs : List ℕ) (n k : ℕ) (b : Builds s ws hs n k) (t ws' hs' : List ℕ) (n' k' : ℕ) (b' : Builds t ws' hs' n' k') (cs ds : List ImageCall) where
  abbrev rs : List Route
  rs = image_standing_after s ws hs cs

  abbrev ss : List Route
  ss = image_standing_after t ws' hs' ds

  first_left : ImageLeft rs ws hs (image_after s ws hs cs)
  first_left = image-run s ws hs n k b cs

  second_left : ImageLeft ss ws' hs' (image_after t ws' hs' ds)
  second_left = image-run t ws' hs' n' k' b' ds

  pub runs-one-image : length ws ≡ length ws' → length hs ≡ length hs' → SameArrays (image_after s ws hs cs) (image_after t ws' hs' ds) ↔ (rs ≡ ss)
  runs-one-image ew eh = (
    (λ e. ap₂ routes_held e.0 e.1),
    (λ e. (
      first_left.words ∙ ap (λ (x : List Route). (image_of x (length ws) (length hs)).words) e
          ∙ ap₂ (λ (w h : ℕ). (image_of ss w h).words) ew eh ∙ sym second_left.words,
      first_left.hops ∙ ap (λ (x : List Route). (image_of x (length ws) (length hs)).hops) e
          ∙ ap₂ (λ (w h : ℕ). (image_of ss w h).hops) ew eh ∙ sym second_left.hops,
    )),
  )

  -- what stands is the same exactly when it is worked out to be the same for each prefix
  standing-worked : (rs ≡ ss) ↔ ((j : ℕ) → image_held_by_calls s ws hs cs j ≡ image_held_by_calls t ws' hs' ds j)
  standing-worked = (
    (λ e j. sym (image-run-standing s ws hs n k b cs j) ∙ ap (route_at j) e ∙ image-run-standing t ws' hs' n' k' b' ds j),
    (λ e.
        same-standing rs ss first_left.fit.good second_left.fit.good
        (λ j. image-run-standing s ws hs n k b cs j ∙ e j ∙ sym (image-run-standing t ws' hs' n' k' b' ds j))),
  )

  -- and so from the accepted calls alone
  pub runs-one-image-worked : length ws ≡ length ws' → length hs ≡ length hs'
      → SameArrays (image_after s ws hs cs) (image_after t ws' hs' ds) ↔ ((j : ℕ) → image_held_by_calls s ws hs cs j ≡ image_held_by_calls t ws' hs' ds j)
  runs-one-image-worked ew eh =
      let i = runs-one-image ew eh in
      ((λ e. standing-worked.0 (i.0 e)), (λ e. i.1 (standing-worked.1 e)))

  -- in arrays of any lengths: as many nodes and hops in use, and the same in them
  pub runs-used-part : ((node_need rs ≡ node_need ss) × (length rs ≡ length ss) × SameUsed (node_need rs) (length rs) (image_after s ws hs cs)
      (image_after t ws' hs' ds))
      ↔ (rs ≡ ss)
  runs-used-part =
      let o = image_after s ws hs cs in
      let o' = built (input_of rs) ws hs in
      let p = image_after t ws' hs' ds in
      let p' = built (input_of ss) ws' hs' in
      let f = change-as-build first_left in
      let g = change-as-build second_left in
      let u =
      used-part-same (input_of rs) (input_of ss) ws hs ws' hs' (node_need rs) (length rs) (node_need ss) (length ss) (builds first_left)
      (builds second_left) in (
        (λ e. sym (its-routes first_left) ∙ u.0 (e.0, e.1, used-as (node_need rs) (length rs) o o' p p' f g e.2) ∙ its-routes second_left),
        (λ e.
            let x = u.1 (its-routes first_left ∙ e ∙ sym (its-routes second_left)) in
            (x.0, x.1, used-as (node_need rs) (length rs) o' o p' p (sym f.0, sym f.1) (sym g.0, sym g.1) x.2)),
      )

-- ---- images that pass the test, however they came to be (words are of 32 bits by their type)

module _ (ws hs ws' hs' : List ℕ) (narrow : (j : ℕ) → get_or ws j 0 < 2 ^ 32) (narrow' : (j : ℕ) → get_or ws' j 0 < 2 ^ 32)
    (formed : well_formed ws hs ≡ true) (formed' : well_formed ws' hs' ≡ true) where
  pub tested-one-image : length ws ≡ length ws' → length hs ≡ length hs' → ((ws ≡ ws') × (hs ≡ hs')) ↔ (routes_held ws hs ≡ routes_held ws' hs')
  tested-one-image ew eh =
      let i = held-image ws hs (nodes_used ws) (well-formed-is ws hs formed) narrow in
      let j = held-image ws' hs' (nodes_used ws') (well-formed-is ws' hs' formed') narrow' in (
        (λ e. ap₂ routes_held e.0 e.1),
        (λ e. (
          i.0 ∙ ap (λ (x : List Route). (image_of x (length ws) (length hs)).words) e
              ∙ ap₂ (λ (w h : ℕ). (image_of (routes_held ws' hs') w h).words) ew eh ∙ sym j.0,
          i.1 ∙ ap (λ (x : List Route). (image_of x (length ws) (length hs)).hops) e
              ∙ ap₂ (λ (w h : ℕ). (image_of (routes_held ws' hs') w h).hops) ew eh ∙ sym j.1,
        )),
      )
