-- What an image that passes the test is worth: the test counts its nodes and its routes, each of its paths leads to one of these routes, and it serves
-- every address from them. All of it holds since it is their image.
use mathlib.Core.Path.{◌≡◌, sym, ◌∙◌, ap, ap₂}
use mathlib.Core.Bool.{true}
use mathlib.Core.List.{List, [], ◌∷◌, Memᴰ}
use Prim.Native.Nat.{ℕ, suc, ◌*◌, ◌^◌, ◌≤◌, ◌<◌}
use native.Mathlib.Omega.{arith}
use lib.ListN.{length, get_or}
use Rattle.bits.specs.Slot.{slot}
use Rattle.routes.specs.Said.{accepted}
use Rattle.routes.specs.declared.Route.{Route}
use Rattle.standing.specs.Cells.{best}
use Rattle.tree_image.specs.Image.{hops, through, node_stands, hop_for, image_by, node_need, on_path}
use Rattle.tree_image.specs.Walk.{tree_hop_said, tree_said}
use Rattle.tree_image.proofs.Lies.{any-is, pass-parts}
use Rattle.tree_image.proofs.Needs.{hops-need}
use Rattle.tree_image.proofs.Serves.{image-serves}
use Rattle.tree_same.specs.Read.{leads}
use Rattle.tree_same.specs.Order.{stands_at}
use Rattle.tree_same.specs.Listed.{routes_held}
use Rattle.tree_same.proofs.Back.{leads-is}
use Rattle.tree_same.proofs.Same.{fits}
use Rattle.tree_formed.specs.WellFormed.{nodes_used, well_formed}
use Rattle.tree_formed.specs.Answers.{tested}
use Rattle.tree_formed.proofs.Meaning.{WellFormed, well-formed-is}
use Rattle.tree_formed.proofs.Held.{held-good, held-image, held-nodes, held-hops}

-- (words are of 32 bits by their type)
module _ (ws hs : List ℕ) (narrow : (j : ℕ) → get_or ws j 0 < 2 ^ 32) (passes : well_formed ws hs ≡ true) where
  abbrev rs : List Route
  rs = routes_held ws hs

  formed : WellFormed ws hs (nodes_used ws)
  formed = well-formed-is ws hs passes

  room : 3 * node_need rs ≤ length ws
  room = omega (arith, held-nodes ws hs (nodes_used ws) formed narrow, formed.order.lent)

  space : length rs ≤ length hs
  space = omega (arith, held-hops ws hs (nodes_used ws) formed narrow, formed.room)

  -- the test says how many nodes these routes need, and how many they are
  pub tested-counts : tested ws hs ≡ accepted (node_need rs ∷ length rs ∷ [])
  unfolding tested
  tested-counts =
      rw passes
      (ap₂ (λ (n k : ℕ). accepted (n ∷ k ∷ [])) (held-nodes ws hs (nodes_used ws) formed narrow) (held-hops ws hs (nodes_used ws) formed narrow))

  -- No path ends without a route: where the extending bits lead to a node below the root, one of the routes begins with its path.
  pub path-has-route : (m p : ℕ) → leads ws (suc m) p ≡ true → (r : Route) × Memᴰ r rs × (4 * suc m ≤ r.len) × (slot (4 * suc m) r.addr ≡ p)
  unfolding stands_at image_by
  path-has-route m p t =
      let g = held-good ws hs (nodes_used ws) formed narrow in
      let fit : length (hops (node_stands rs) (hop_for rs)) ≤ length hs = omega (arith, hops-need rs g, space) in
      let k : leads ws (suc m) p ≡ node_stands rs (suc m) p =
      ap (λ (v : List ℕ). leads v (suc m) p) (held-image ws hs (nodes_used ws) formed narrow).0
      ∙ (leads-is (node_stands rs) (hop_for rs) (fits rs g) (length ws) (length hs) room fit (suc m) p).0 in
      let f = any-is (through (suc m) p) rs (sym k ∙ t) in
      let s = pass-parts (suc m) p f.0 f.2 in
      (f.0, f.1, s.0, s.1)

  -- every address: the hop of the longest of these routes that covers it, or no route, told after the nodes on its path
  pub formed-serves : (a : ℕ) → a < 2 ^ 32 → tree_said ws hs a ≡ tree_hop_said (best rs 32 a) (on_path rs a)
  formed-serves a l =
      let i = held-image ws hs (nodes_used ws) formed narrow in
      ap₂ (λ (x y : List ℕ). tree_said x y a) i.0 i.1
      ∙ image-serves rs (length ws) (length hs) a (held-good ws hs (nodes_used ws) formed narrow) l room space
