-- The words of an image are of 32 bits: bits by their number, child bases below 2 ^ 16, hop bases below 2 ^ 13.
use mathlib.Core.Path.{◌≡◌, ◌∙◌}
use mathlib.Core.Logic.{◌⊎◌, inl, inr}
use mathlib.Core.List.{List}
use Prim.Native.Nat.{ℕ, ◌+◌, ◌*◌, ◌/◌, ◌%◌, ◌^◌, ◌≤◌, ◌<◌}
use native.Mathlib.Omega.{arith}
use lib.ListN.{length, get_or}
use Rattle.bits.proofs.Bools.{below?}
use Rattle.routes.specs.Route.{Good}
use Rattle.routes.specs.declared.Route.{Route}
use Rattle.tree_image.specs.Node.{bits_of, child_of, base_of}
use Rattle.tree_image.specs.Image.{node_stands, hop_for, node_need, image_of}
use Rattle.tree_image.proofs.Needs.{hops-need, nodes-most}
use Rattle.tree_build.specs.Built.{ImageOut}
use Rattle.tree_same.specs.Order.{ints}
use Rattle.tree_same.specs.Holding.{Holding}
use Rattle.tree_same.proofs.Same.{fits}
use Rattle.tree_same.proofs.Holdings.{hops-are, image-holding}
use Rattle.tree_formed.proofs.Held.{exts-mono, ints-mono}
use Rattle.tree_hold.proofs.Holds.{bits_fit}
use Rattle.tree_theory.specs.Cases.{ImageLeft}

module _ (rs : List Route) (w h : ℕ) (g : Good rs) (few : length rs ≤ 4096) (room : 3 * node_need rs ≤ w) (space : length rs ≤ h) where
  abbrev ws : List ℕ
  ws = (image_of rs w h).words

  abbrev hs : List ℕ
  hs = (image_of rs w h).hops

  held : Holding (node_stands rs) (hop_for rs) ws hs (node_need rs)
  held = image-holding (node_stands rs) (hop_for rs) (fits rs g) w h room (omega (arith, hops-need rs g))

  node-narrow : (i : ℕ) → i < node_need rs → (bits_of ws i < 2 ^ 32) × (child_of ws i < 2 ^ 32) × (base_of ws i < 2 ^ 32)
  node-narrow i l =
      let all : ints ws (node_need rs) ≡ length rs = hops-are (node_stands rs) (hop_for rs) ws hs (node_need rs) (fits rs g).agree.nine held ∙ hops-need rs g in (
        bits_fit (fits rs g).agree.nine held i l,
        omega (arith, held.order.child i l, exts-mono ws i (node_need rs) (omega arith), held.order.whole, nodes-most rs g few),
        omega (arith, held.order.base i l, ints-mono ws i (node_need rs) (omega arith), all),
      )

  pub image-narrow : (j : ℕ) → get_or ws j 0 < 2 ^ 32
  image-narrow j = go (below? (j / 3) (node_need rs)) (below? (j % 3) 1) (below? (j % 3) 2)
    where
      at : (k : ℕ) → 3 * (j / 3) + k ≡ j → get_or ws (3 * (j / 3) + k) 0 < 2 ^ 32 → get_or ws j 0 < 2 ^ 32
      at k e l = rw (← e) l

      go : (j / 3 < node_need rs) ⊎ (node_need rs ≤ j / 3) → (j % 3 < 1) ⊎ (1 ≤ j % 3) → (j % 3 < 2) ⊎ (2 ≤ j % 3) → get_or ws j 0 < 2 ^ 32
      go (inr u) v x = omega (arith, held.rest j (omega arith))
      go (inl u) (inl v) x = let e : 3 * (j / 3) ≡ j = omega arith in rw e at (node-narrow (j / 3) u).0
      go (inl u) (inr v) (inl x) = at 1 (omega arith) (node-narrow (j / 3) u).1
      go (inl u) (inr v) (inr x) = at 2 (omega arith) (node-narrow (j / 3) u).2

pub left-narrow : {rs : List Route} {ws hs : List ℕ} {o : ImageOut} → ImageLeft rs ws hs o → (j : ℕ) → get_or o.words j 0 < 2 ^ 32
left-narrow {rs} {ws} {hs} l j =
    rw l.words (image-narrow rs (length ws) (length hs) l.fit.good l.fit.few (omega (arith, l.fit.nodes)) l.fit.hops j)
