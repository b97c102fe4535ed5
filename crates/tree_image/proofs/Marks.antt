-- An image carries no marks: routes that differ in marks alone have one image, and need as many nodes. Which nodes stand and which hops
-- they have is all that an image is made of, and neither looks at a mark.
use mathlib.Core.Path.{◌≡◌, refl, ap, ap₂}
use mathlib.Core.Bool.{Bool}
use mathlib.Core.List.{List, map}
use Prim.Native.Nat.{ℕ}
use lib.ListN.{length}
use Rattle.routes.specs.Route.{plain}
use Rattle.routes.specs.declared.Route.{Route}
use Rattle.standing.specs.Cells.{here, or_else}
use Rattle.standing.proofs.Marks.{any-plain, first_plain}
use Rattle.tree_image.specs.Image.{Node, nodes, image_by, through, node_stands, hop_for, image_of, node_need}

module _ (rs : List Route) where
  pub stands_plain : node_stands (map plain rs) ≡ node_stands rs
  stands_plain = λ i m p. any-plain (through m p) (λ r. refl) rs i

  pub hops-plain : hop_for (map plain rs) ≡ hop_for rs
  hops-plain = λ i l q. or_else (first_plain (here l q) (λ r. refl) rs i) 0

  pub image-unmarked : (w h : ℕ) → image_of (map plain rs) w h ≡ image_of rs w h
  image-unmarked w h = ap₂ (λ (st : ℕ → ℕ → Bool) (hop : ℕ → ℕ → ℕ). image_by st hop w h) stands_plain hops-plain

  pub nodes-unmarked : node_need (map plain rs) ≡ node_need rs
  nodes-unmarked = ap (λ (st : ℕ → ℕ → Bool). length {A = Node} (nodes st)) stands_plain
