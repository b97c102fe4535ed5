-- One image for one set of routes. 02, n: "Two record inputs that both build into arrays of equal sizes give equal arrays exactly when they hold the
-- same prefixes with the same hops, marks aside. Accepted announcements and withdrawals, on built images in such arrays, end in equal arrays whenever
-- the routes then standing are the same, in whichever order they came."
--
-- A run is a list of calls from a build, the last call first: `image_after s ws hs cs` is what the last call says, and both arrays then, where the input s
-- was built into ws and hs. What these held before a build is free.
use mathlib.Core.Path.{◌≡◌}
use mathlib.Core.Logic.{◌↔◌}
use mathlib.Core.Bool.{true, false, cond}
use mathlib.Core.List.{List, ◌∷◌, map}
use Prim.Native.Nat.{ℕ}
use lib.ListN.{length}
use Rattle.routes.specs.Record.{routes_in}
use Rattle.routes.specs.Route.{plain}
use Rattle.routes.specs.Said.{accepts}
use Rattle.standing.specs.Standing.{route_at}
use Rattle.tree_image.specs.Image.{node_need}
use Rattle.tree_build.specs.Built.{built}
use Rattle.tree_same.specs.Listed.{routes_held}
use Rattle.tree_same.specs.OneImage.{SameRoutes, Builds, SameArrays, SameUsed}
use Rattle.tree_same.proofs.OneImage as builds
use Rattle.tree_formed.specs.Cases.{Narrow}
use Rattle.tree_formed.specs.WellFormed.{well_formed}
use Rattle.tree_theory.specs.Cases.{ImageLeft}
use Rattle.tree_runs.specs.ImageRuns.{ImageCall, image_after, image_standing_after, image_held_by_calls, image_routes_after}
use Rattle.tree_runs.proofs.ImageRuns as runs
use Rattle.tree_runs.proofs.Same as same

-- ---- two builds

module _ (s t ws hs ws' hs' : List ℕ) (n k n' k' : ℕ) (x : Builds s ws hs n k) (y : Builds t ws' hs' n' k') where
  -- "equal arrays exactly when they hold the same prefixes with the same hops": for each prefix the same hop or none in both
  pub one-image : length ws ≡ length ws' → length hs ≡ length hs' → SameArrays (built s ws hs) (built t ws' hs') ↔ SameRoutes (routes_in s) (routes_in t)
  one-image = builds.one-image-routes s t ws hs ws' hs' n k n' k' x y

  -- "marks aside": the same list, each mark cleared
  pub one-image-plain : length ws ≡ length ws' → length hs ≡ length hs'
      → SameArrays (built s ws hs) (built t ws' hs') ↔ (map plain (routes_in s) ≡ map plain (routes_in t))
  one-image-plain = builds.one-image s t ws hs ws' hs' n k n' k' x y

  -- In arrays of any sizes: as many nodes and hops in use, and the same in them.
  pub used-part : ((n ≡ n') × (k ≡ k') × SameUsed n k (built s ws hs) (built t ws' hs')) ↔ (map plain (routes_in s) ≡ map plain (routes_in t))
  used-part = builds.used-part-same s t ws hs ws' hs' n k n' k' x y

-- ---- one run

module _ (s ws hs : List ℕ) (n k : ℕ) (b : Builds s ws hs n k) where
  -- After any run, refused calls among them, the arrays are the image of the routes then standing, in arrays of these sizes; these routes are in
  -- order, have no marks, and fit.
  pub image-run : (cs : List ImageCall) → ImageLeft (image_standing_after s ws hs cs) ws hs (image_after s ws hs cs)
  image-run = runs.image-run s ws hs n k b

  -- What stands is worked out from the input and the accepted calls alone: for each prefix, by its key, what the last accepted call said of it.
  pub image-run-standing : (cs : List ImageCall) (j : ℕ) → route_at j (image_standing_after s ws hs cs) ≡ image_held_by_calls s ws hs cs j
  image-run-standing = runs.image-run-standing s ws hs n k b

  -- From call to call.
  pub image-run-list : (c : ImageCall) (cs : List ImageCall)
      → image_standing_after s ws hs (c ∷ cs) ≡ cond (accepts (image_after s ws hs (c ∷ cs)).said) (image_routes_after c (image_standing_after s ws hs cs))
      (image_standing_after s ws hs cs)
  image-run-list = runs.image-run-list s ws hs n k b

  -- A refused call leaves both arrays.
  pub image-run-refused : (c : ImageCall) (cs : List ImageCall) → accepts (image_after s ws hs (c ∷ cs)).said ≡ false → SameArrays
      (image_after s ws hs (c ∷ cs)) (image_after s ws hs cs)
  image-run-refused = runs.image-run-refused s ws hs n k b

-- ---- two runs

module _ (s ws hs : List ℕ) (n k : ℕ) (b : Builds s ws hs n k) (t ws' hs' : List ℕ) (n' k' : ℕ) (b' : Builds t ws' hs' n' k') (cs ds : List ImageCall) where
  -- "end in equal arrays whenever the routes then standing are the same, in whichever order they came", and not otherwise
  pub runs-one-image : length ws ≡ length ws' → length hs ≡ length hs'
      → SameArrays (image_after s ws hs cs) (image_after t ws' hs' ds) ↔ (image_standing_after s ws hs cs ≡ image_standing_after t ws' hs' ds)
  runs-one-image = same.runs-one-image s ws hs n k b t ws' hs' n' k' b' cs ds

  -- the same, from the accepted calls alone
  pub runs-one-image-worked : length ws ≡ length ws' → length hs ≡ length hs'
      → SameArrays (image_after s ws hs cs) (image_after t ws' hs' ds) ↔ ((j : ℕ) → image_held_by_calls s ws hs cs j ≡ image_held_by_calls t ws' hs' ds j)
  runs-one-image-worked = same.runs-one-image-worked s ws hs n k b t ws' hs' n' k' b' cs ds

  -- In arrays of any sizes.
  pub runs-used-part : ((node_need (image_standing_after s ws hs cs) ≡ node_need (image_standing_after t ws' hs' ds))
      × (length (image_standing_after s ws hs cs) ≡ length (image_standing_after t ws' hs' ds))
      × SameUsed (node_need (image_standing_after s ws hs cs)) (length (image_standing_after s ws hs cs)) (image_after s ws hs cs) (image_after t ws' hs' ds))
      ↔ (image_standing_after s ws hs cs ≡ image_standing_after t ws' hs' ds)
  runs-used-part = same.runs-used-part s ws hs n k b t ws' hs' n' k' b' cs ds

-- ---- two images that pass the test

-- However they came to be: equal arrays exactly when the routes that are read out of them are the same. Words are of 32 bits by their type.
module _ (ws hs ws' hs' : List ℕ) (narrow : Narrow ws) (narrow' : Narrow ws') (formed : well_formed ws hs ≡ true) (formed' : well_formed ws' hs' ≡ true) where
  pub tested-one-image : length ws ≡ length ws' → length hs ≡ length hs' → ((ws ≡ ws') × (hs ≡ hs')) ↔ (routes_held ws hs ≡ routes_held ws' hs')
  tested-one-image = same.tested-one-image ws hs ws' hs' narrow narrow' formed formed'
