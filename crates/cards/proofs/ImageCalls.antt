-- The test and the changes of an image at the boundary. A length over 32 and a hop over 32,767 that do not fit the narrow types are refused as those
-- just over the limit are. What the calls say has room in their answers, a caller that reads an answer by the header's fields has exactly what the
-- call inside says, and nothing else is in it. Supposed is what the type of words gives, that each has 32 bits.
use mathlib.Core.Path.{◌≡◌, refl, ◌∙◌, ap}
use mathlib.Core.Logic.{◌⊎◌, inl, inr}
use mathlib.Core.Bool.{true, false, cond}
use mathlib.Core.List.{List, [], ◌∷◌}
use Prim.Native.Nat.{ℕ, ◌≤◌, ◌<◌, min}
use native.Mathlib.Omega.{arith}
use lib.ListN.{length}
use Rattle.bits.proofs.Bools.{decided, untrue}
use Rattle.routes.specs.Input.{hop_fine}
use Rattle.routes.specs.Route.{key_of, Good}
use Rattle.routes.specs.Said.{Said, accepted, refused}
use Rattle.routes.proofs.Meaning.{hop-true}
use Rattle.standing.specs.Standing.{stands}
use Rattle.standing.proofs.Standing.{insert-good}
use Rattle.tree_image.specs.Image.{node_need}
use Rattle.tree_image.proofs.Needs.{nodes-most}
use Rattle.tree_build.specs.Built as tree
use Rattle.tree_same.specs.Listed.{routes_held}
use Rattle.tree_formed.specs.Answers.{tested}
use Rattle.tree_formed.specs.WellFormed.{nodes_used, hops_in, well_formed}
use Rattle.tree_formed.proofs.Meaning.{well-formed-is}
use Rattle.tree_formed.proofs.Held.{held-good, held-nodes, held-hops}
use Rattle.tree_theory.specs.Changed.{unmarked_route, image_announced, image_withdrawn}
use Rattle.tree_theory.specs.Cases.{ImageAsked, routes_with, routes_without, Announcing, Withdrawing}
use Rattle.tree_theory.proofs.Cases.{is-fine}
use Rattle.tree_theory.proofs.Cases.{announce-cases, its-fit}
use Rattle.tree_theory.proofs.Takes.{withdraw-cases, left-fit}
use Rattle.packing.specs.Pack.{pack_built}
use Rattle.packing.specs.Unpack.{unpack_built, FitsWord, BuiltFits}
use Rattle.packing.specs.Parts.{parts, built_parts}
use Rattle.packing.specs.ImageAnswers.{pack_image, unpack_image, ImageFits, image_parts, Words32}
use Rattle.packing.proofs.Unpacks.{built-read}
use Rattle.packing.proofs.Parts.{built-parts}
use Rattle.packing.proofs.ImageAnswers.{image-read, image-parts}
use Rattle.cards.specs.Cards.{image_card, image_card_of}
use Rattle.cards.specs.Images.{changed_card_of}
use Rattle.cards.specs.Narrow.{AlikeOver}
use Rattle.cards.proofs.Narrow.{narrowed, long-prefix}
use Rattle.cards.proofs.Laws.{image-card-is}
use Rattle.cards.proofs.Fits.{bit-low}

-- ---- numbers that were narrowed

high-hop : (h : ℕ) → 32767 < h → hop_fine h ≡ false
high-hop h l = untrue (hop_fine h) (λ e. omega (arith, (hop-true h e).1))

module _ (ws hs : List ℕ) (a : ℕ) where
  -- 3 for a length over 32; 4 for a hop over 32,767, or 3 where that comes first
  pub image-announced-long : (h : ℕ) → AlikeOver 32 (λ (len : ℕ). image_announced ws hs a len h)
  unfolding image_announced
  image-announced-long h x y u v = rw (long-prefix a x u, long-prefix a y v) refl

  pub image-announced-high : (len : ℕ) → AlikeOver 32767 (λ (h : ℕ). image_announced ws hs a len h)
  unfolding image_announced
  image-announced-high len x y u v = rw (high-hop x u, high-hop y v) refl

  pub image-withdrawn-long : AlikeOver 32 (λ (len : ℕ). image_withdrawn ws hs a len)
  unfolding image_withdrawn
  image-withdrawn-long x y u v = rw (long-prefix a x u, long-prefix a y v) refl

  image-announced-narrow : (len h n m : ℕ) → n ≡ min len 255 → m ≡ min h 65535 → image_announced ws hs a n m ≡ image_announced ws hs a len h
  image-announced-narrow len h n m e q =
      narrowed (λ (x : ℕ). image_announced ws hs a x m) 32 255 (omega arith) (image-announced-long m) len n e
      ∙ narrowed (λ (x : ℕ). image_announced ws hs a len x) 32767 65535 (omega arith) (image-announced-high len) h m q

  image-withdrawn-narrow : (len n : ℕ) → n ≡ min len 255 → image_withdrawn ws hs a n ≡ image_withdrawn ws hs a len
  image-withdrawn-narrow len n e = narrowed (λ (x : ℕ). image_withdrawn ws hs a x) 32 255 (omega arith) image-withdrawn-long len n e

  -- packed answers beside what is lent
  module _ (len n : ℕ) (e : n ≡ min len 255) (s : Said) (ws' hs' : List ℕ) (r : ℕ) where
    pub tree-announce-card : (h m : ℕ) → m ≡ min h 65535 → tree.image_out s ws' hs' ≡ image_announced ws hs a n m → r ≡ pack_image s
        → image_card r ws' hs' ≡ changed_card_of (image_announced ws hs a len h)
    unfolding changed_card_of
    tree-announce-card h m q is p = ap (λ (x : ℕ). image_card x ws' hs') p ∙ ap changed_card_of (is ∙ image-announced-narrow len h n m e q)

    pub tree-withdraw-card : tree.image_out s ws' hs' ≡ image_withdrawn ws hs a n → r ≡ pack_built s → image_card r ws' hs' ≡ image_card_of
        (image_withdrawn ws hs a len)
    tree-withdraw-card is = image-card-is s ws' hs' _ r (is ∙ image-withdrawn-narrow len n e)

-- ---- what is said has room, and is read back

module _ (ws hs : List ℕ) (words : Words32 ws) where
  -- a well-formed image has at most 32,769 nodes and 4,096 hops
  formed-few : well_formed ws hs ≡ true → (nodes_used ws ≤ 32769) × (hops_in ws ≤ 4096)
  formed-few t =
      let w = well-formed-is ws hs t in
      let g = held-good ws hs (nodes_used ws) w words.each in
      let n = held-nodes ws hs (nodes_used ws) w words.each in
      let k = held-hops ws hs (nodes_used ws) w words.each in
      let m = nodes-most (routes_held ws hs) g (omega (arith, k, w.few)) in
      (omega (arith, n, m), w.few)

  pub test_fits : FitsWord 0 BuiltFits (tested ws hs)
  unfolding tested
  test_fits = go (decided (well_formed ws hs))
    where
      go : (well_formed ws hs ≡ true) ⊎ (well_formed ws hs ≡ false) → FitsWord 0 BuiltFits
          (cond (well_formed ws hs) (accepted (nodes_used ws ∷ hops_in ws ∷ [])) (refused 13))
      go (inl t) = let f = formed-few t in rw t (FitsWord.values _ (BuiltFits.image (nodes_used ws) (hops_in ws) (omega (arith, f.0)) (omega (arith, f.1))))
      go (inr t) = rw t (FitsWord.number 13 (omega arith) (omega arith))

  pub gh-tree-test-read : unpack_built (pack_built (tested ws hs)) ≡ tested ws hs
  gh-tree-test-read = built-read 0 (omega arith) _ test_fits

  pub gh-tree-test-named : pack_built (tested ws hs) ≡ parts built_parts (pack_built (tested ws hs))
  gh-tree-test-named = built-parts 0 (omega arith) _ test_fits

  module _ (a len h : ℕ) where
    with-good : ImageAsked ws hs a len h → Good (routes_with ws hs a len h)
    with-good k = insert-good (unmarked_route a len h) (routes_held ws hs) (is-fine a len h k.prefix k.hop) (its-fit ws hs words.each k.image).good

    pub tree-announce-fits : FitsWord 0 ImageFits (image_announced ws hs a len h).said
    tree-announce-fits = go ((announce-cases ws hs a len h _).0 refl)
      where
        go : {o : tree.ImageOut} → Announcing ws hs a len h o → FitsWord 0 ImageFits o.said
        go (Announcing.wrong_prefix e) = FitsWord.number 3 (omega arith) (omega arith)
        go (Announcing.wrong_hop e f) = FitsWord.number 4 (omega arith) (omega arith)
        go (Announcing.wrong_image e f g) = FitsWord.number 13 (omega arith) (omega arith)
        go (Announcing.too_many k l) = FitsWord.number 6 (omega arith) (omega arith)
        go (Announcing.nodes_short k l u) = FitsWord.number 11 (omega arith) (omega arith)
        go (Announcing.hops_short k l u v) = FitsWord.number 12 (omega arith) (omega arith)
        go (Announcing.put_in k l u v) =
            let m = nodes-most (routes_with ws hs a len h) (with-good k) l in
            FitsWord.values _ (ImageFits.which _ (node_need (routes_with ws hs a len h)) (length (routes_with ws hs a len h))
            (bit-low (stands (key_of a len) (routes_held ws hs))) (omega arith) (omega arith))

    pub gh-tree-announce-read : unpack_image (changed_card_of (image_announced ws hs a len h)).answer ≡ (image_announced ws hs a len h).said
    unfolding changed_card_of
    gh-tree-announce-read = image-read 0 (omega arith) _ tree-announce-fits

    pub gh-tree-announce-named : (changed_card_of (image_announced ws hs a len h)).answer ≡ parts image_parts (changed_card_of (image_announced ws hs a len h)).answer
    unfolding changed_card_of
    gh-tree-announce-named = image-parts 0 (omega arith) _ tree-announce-fits

  module _ (a len : ℕ) where
    pub tree-withdraw-fits : FitsWord 0 BuiltFits (image_withdrawn ws hs a len).said
    tree-withdraw-fits = go ((withdraw-cases ws hs a len words.each _).0 refl)
      where
        go : {o : tree.ImageOut} → Withdrawing ws hs a len o → FitsWord 0 BuiltFits o.said
        go (Withdrawing.no_prefix e) = FitsWord.number 3 (omega arith) (omega arith)
        go (Withdrawing.no_image e f) = FitsWord.number 13 (omega arith) (omega arith)
        go (Withdrawing.no_route e f g) = FitsWord.number 9 (omega arith) (omega arith)
        go (Withdrawing.taken_out e f g) =
            let r = left-fit ws hs a len words.each f g in
            let m = nodes-most (routes_without ws hs a len) r.good r.few in
            FitsWord.values _ (BuiltFits.image (node_need (routes_without ws hs a len)) (length (routes_without ws hs a len)) (omega arith)
            (omega (arith, r.few)))

    pub gh-tree-withdraw-read : unpack_built (image_card_of (image_withdrawn ws hs a len)).answer ≡ (image_withdrawn ws hs a len).said
    unfolding image_card_of
    gh-tree-withdraw-read = built-read 0 (omega arith) _ tree-withdraw-fits

    pub gh-tree-withdraw-named : (image_card_of (image_withdrawn ws hs a len)).answer ≡ parts built_parts (image_card_of (image_withdrawn ws hs a len)).answer
    unfolding image_card_of
    gh-tree-withdraw-named = built-parts 0 (omega arith) _ tree-withdraw-fits
