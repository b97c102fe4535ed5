-- An accepted change leaves a fresh build of the routes then standing, into the same arrays; these are the routes that are then read out, what
-- is left is well formed again, and a lookup in it meets the longest of them. Shown once, of what a change leaves, for announce and withdraw.
use mathlib.Core.Path.{◌≡◌, refl, sym, ◌∙◌, ap, ap₂, subst}
use mathlib.Core.Bool.{Bool, true, false, cond}
use mathlib.Core.List.{List, [], ◌∷◌, map}
use Prim.Native.Nat.{ℕ, ◌^◌, ◌<◌}
use native.Mathlib.Omega.{arith}
use lib.Dec.{eqb, ltb}
use lib.ListN.{length, get_or}
use Rattle.routes.specs.Route.{key, key_of, plain}
use Rattle.routes.specs.Said.{accepts}
use Rattle.routes.specs.declared.Route.{Route}
use Rattle.standing.specs.Cells.{best}
use Rattle.standing.specs.Standing.{stands, insert, remove}
use Rattle.standing.proofs.Standing.{insert-good, insert-replaces}
use Rattle.tree_image.specs.Image.{Image, image_of, on_path, node_stands, hop_for, node_need}
use Rattle.tree_image.specs.Walk.{tree_hop_said, tree_said}
use Rattle.tree_image.proofs.Needs.{hops-need}
use Rattle.tree_image.proofs.Serves.{image-serves, told-served}
use Rattle.tree_build.specs.Built.{ImageOut, built}
use Rattle.tree_same.specs.Holding.{Holding}
use Rattle.tree_same.specs.Listed.{routes_held}
use Rattle.tree_same.proofs.Same.{fits, image-held}
use Rattle.tree_same.proofs.Holdings.{image-holding}
use Rattle.tree_formed.specs.Buildable.{input_of}
use Rattle.tree_formed.specs.WellFormed.{nodes_used, well_formed}
use Rattle.tree_formed.proofs.Meaning.{well-formed-is, is-well-formed}
use Rattle.tree_formed.proofs.Held.{held-image}
use Rattle.tree_formed.proofs.Builds.{image-formed}
use Rattle.tree_formed.proofs.Exact.{input-built, made-fits}
use Rattle.tree_hold.proofs.Undone.{image-sizes}
use Rattle.tree_theory.specs.Changed.{unmarked_route, image_announced, image_withdrawn}
use Rattle.tree_theory.specs.Cases.{ImageAsked, routes_with, routes_without, put_in, ImageLeft, Anew}
use Rattle.tree_theory.proofs.Needs.{same_nodes}
use Rattle.tree_theory.proofs.Cases.{its-fit, is-fine, case-announced, announce-put}
use Rattle.tree_theory.proofs.Takes.{left-fit, withdraw-taken}

-- ---- what a change leaves

module _ {rs : List Route} {ws hs : List ℕ} {o : ImageOut} (l : ImageLeft rs ws hs o) where
  abbrev image : Image
  image = image_of rs (length ws) (length hs)

  -- its words and hops equal a fresh build, into the same arrays, from the routes then standing
  pub change-as-build : (o.words ≡ (built (input_of rs) ws hs).words) × (o.hops ≡ (built (input_of rs) ws hs).hops)
  change-as-build =
      let e = sym (input-built rs ws hs l.fit.good l.fit.few ∙ made-fits rs ws hs l.fit.nodes l.fit.hops) in
      (l.words ∙ ap (λ (x : ImageOut). x.words) e, l.hops ∙ ap (λ (x : ImageOut). x.hops) e)

  -- and these are the routes that are then read out of it
  pub change-stands : routes_held o.words o.hops ≡ rs
  change-stands =
      ap₂ routes_held l.words l.hops ∙ image-held rs (length ws) (length hs) l.fit.good (omega (arith, l.fit.nodes)) l.fit.hops ∙ l.unmarked

  -- it is well formed again
  pub change-formed : well_formed o.words o.hops ≡ true
  change-formed =
      ap₂ well_formed l.words l.hops
      ∙ is-well-formed image.words image.hops (node_need rs)
      (image-formed rs (length ws) (length hs) l.fit.good l.fit.few (omega (arith, l.fit.nodes)) l.fit.hops)

  -- every address meets the longest of these routes that covers it, or none, told after the nodes on its path
  pub change-serves : (a : ℕ) → a < 2 ^ 32 → tree_said o.words o.hops a ≡ tree_hop_said (best rs 32 a) (on_path rs a)
  change-serves a u =
      ap₂ (λ (x y : List ℕ). tree_said x y a) l.words l.hops
      ∙ image-serves rs (length ws) (length hs) a l.fit.good u (omega (arith, l.fit.nodes)) l.fit.hops

  pub change-anew : Anew rs ws hs o
  change-anew = record {
    as_build = change-as-build;
    stands = change-stands;
    passes = change-formed;
    serves = λ x u. told-served rs l.fit.good x (change-serves x u);
  }

  pub change-sizes : (length o.words ≡ length ws) × (length o.hops ≡ length hs)
  change-sizes =
      let z =
      image-sizes (node_stands rs) (hop_for rs) (length ws) (length hs) (omega (arith, l.fit.nodes))
      (omega (arith, hops-need rs l.fit.good, l.fit.hops)) in
      (ap length l.words ∙ z.0, ap length l.hops ∙ z.1)

  pub change-holds : Holding (node_stands rs) (hop_for rs) o.words o.hops (node_need rs)
  change-holds =
      let h =
      image-holding (node_stands rs) (hop_for rs) (fits rs l.fit.good) (length ws) (length hs) (omega (arith, l.fit.nodes))
      (omega (arith, hops-need rs l.fit.good, l.fit.hops)) in
      subst (λ (v : List ℕ). Holding (node_stands rs) (hop_for rs) v o.hops (node_need rs)) (sym l.words)
      (subst (λ (v : List ℕ). Holding (node_stands rs) (hop_for rs) image.words v (node_need rs)) (sym l.hops) h)

-- ---- marks: none is in an image, and none in the routes then standing

plain-insert : (r : Route) (rs : List Route) → map plain (insert r rs) ≡ insert (plain r) (map plain rs)
unfolding insert
plain-insert r [] = refl
plain-insert r (s ∷ ss) = go (ltb (key r) (key s)) (eqb (key s) (key r)) (plain-insert r ss)
  where
    go : (x y : Bool) → map plain (insert r ss) ≡ insert (plain r) (map plain ss)
        → map plain (cond x (r ∷ s ∷ ss) (cond y (r ∷ ss) (s ∷ insert r ss)))
        ≡ cond x (plain r ∷ plain s ∷ map plain ss) (cond y (plain r ∷ map plain ss) (plain s ∷ insert (plain r) (map plain ss)))
    go true y e = refl
    go false true e = refl
    go false false e = ap (λ (l : List Route). plain s ∷ l) e

plain-remove : (k : ℕ) (rs : List Route) → map plain (remove k rs) ≡ remove k (map plain rs)
unfolding remove
plain-remove k [] = refl
plain-remove k (s ∷ ss) = go (eqb (key s) k) (plain-remove k ss)
  where
    go : (x : Bool) → map plain (remove k ss) ≡ remove k (map plain ss)
        → map plain (cond x (remove k ss) (s ∷ remove k ss)) ≡ cond x (remove k (map plain ss)) (plain s ∷ remove k (map plain ss))
    go true e = e
    go false e = ap (λ (l : List Route). plain s ∷ l) e

-- words are of 32 bits by their type
module _ (ws hs : List ℕ) (a len : ℕ) (narrow : (j : ℕ) → get_or ws j 0 < 2 ^ 32) where
  -- the routes of a well-formed image have no marks
  held_plain : well_formed ws hs ≡ true → map plain (routes_held ws hs) ≡ routes_held ws hs
  held_plain f =
      let i = held-image ws hs (nodes_used ws) (well-formed-is ws hs f) narrow in
      let r = its-fit ws hs narrow f in
      sym (image-held (routes_held ws hs) (length ws) (length hs) r.good (omega (arith, r.nodes)) r.hops) ∙ ap₂ routes_held (sym i.0) (sym i.1)

  -- ---- the calls

  pub announce-left : (h : ℕ) → accepts (image_announced ws hs a len h).said ≡ true → ImageLeft (routes_with ws hs a len h) ws hs (image_announced ws hs a len h)
  announce-left h ok =
      let p = announce-put ws hs a len h ok in
      let k = p.asked in
      record {
        fit = record {
          good = insert-good (unmarked_route a len h) (routes_held ws hs) (is-fine a len h k.prefix k.hop) (its-fit ws hs narrow k.image).good;
          few = p.few;
          nodes = p.nodes_fit;
          hops = p.hops_fit;
        };
        unmarked = plain-insert (unmarked_route a len h) (routes_held ws hs) ∙ ap (insert (unmarked_route a len h)) (held_plain k.image);
        words = ap (λ (o : ImageOut). o.words) p.told;
        hops = ap (λ (o : ImageOut). o.hops) p.told;
      }

  pub withdraw-left : accepts (image_withdrawn ws hs a len).said ≡ true → ImageLeft (routes_without ws hs a len) ws hs (image_withdrawn ws hs a len)
  withdraw-left ok =
      let t = withdraw-taken ws hs a len narrow ok in
      record {
        fit = left-fit ws hs a len narrow t.image t.stood;
        unmarked = plain-remove (key_of a len) (routes_held ws hs) ∙ ap (remove (key_of a len)) (held_plain t.image);
        words = ap (λ (o : ImageOut). o.words) t.told;
        hops = ap (λ (o : ImageOut). o.hops) t.told;
      }

  -- a replacement meets none of 6, 11 and 12
  pub replaced-never : (h : ℕ) → ImageAsked ws hs a len h → stands (key_of a len) (routes_held ws hs) ≡ true → accepts (image_announced ws hs a len h).said ≡ true
  replaced-never h k s =
      let r = its-fit ws hs narrow k.image in
      let l = insert-replaces (unmarked_route a len h) (routes_held ws hs) r.good s in
      let n = same_nodes (unmarked_route a len h) (routes_held ws hs) (is-fine a len h k.prefix k.hop) r.good s in
      ap (λ (o : ImageOut). accepts o.said) (case-announced ws hs a len h _
      (put_in k (omega (arith, r.few)) (omega (arith, r.nodes)) (omega (arith, r.hops))))
