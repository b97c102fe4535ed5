-- Where all nodes are done, the arrays are the image: each word and each hop is that of its node, and after them stand zeros.
use mathlib.Core.Path.{◌≡◌, refl, sym, ◌∙◌, subst}
use mathlib.Core.Logic.{◌⊎◌, inl, inr}
use mathlib.Core.Bool.{Bool}
use mathlib.Core.List.{List}
use Prim.Native.Nat.{ℕ, zero, suc, ◌+◌, ◌*◌, ◌/◌, ◌%◌, ◌≤◌, ◌<◌}
use native.Mathlib.Omega.{arith}
use lib.ListN.{length, get_or}
use lib.Seq.{ext_get_or}
use Rattle.bits.specs.Count.{count}
use Rattle.bits.proofs.Bools.{below?}
use Rattle.tree_image.specs.Parts.{before, zero_padded}
use Rattle.tree_image.specs.Image.{Node, node, inner, hops_of, nodes, words, hops, image_by}
use Rattle.tree_image.specs.Done.{node_no, AllDone}
use Rattle.tree_image.proofs.Counts.{count-hit}
use Rattle.tree_image.proofs.Parts.{picked-length, gather-split}
use Rattle.tree_image.proofs.Nodes.{words-length, words-at}
use Rattle.tree_image.proofs.Holds.{pad-length, pad-at, pad-past, hop-place}

-- a list that agrees with another one and then has zeros
pub pad-ext : (ys xs : List ℕ) → length xs ≤ length ys → ((j : ℕ) → j < length xs → get_or ys j 0 ≡ get_or xs j 0) → ((j : ℕ) → length xs ≤ j → get_or ys j 0 ≡ 0)
    → ys ≡ zero_padded (length ys) xs
pad-ext ys xs l f g =
    ext_get_or 0 ys (zero_padded (length ys) xs) (sym (pad-length (length ys) xs l)) (λ j u. go j (below? j (length xs)))
  where
    go : (j : ℕ) → (j < length xs) ⊎ (length xs ≤ j) → get_or ys j 0 ≡ get_or (zero_padded (length ys) xs) j 0
    go j (inl u) = f j u ∙ sym (pad-at (length ys) xs j u)
    go j (inr u) = g j u ∙ sym (pad-past (length ys) xs j u)

module _ (st : ℕ → ℕ → Bool) (hop : ℕ → ℕ → ℕ) (ws hs : List ℕ) (all : AllDone st hop ws hs) where
  abbrev ns : List Node
  ns = nodes st

  size : length (words st hop) ≡ 3 * length ns
  unfolding words
  size = words-length st hop ns 1 0

  -- word j is the first, the second or the third of node j / 3
  word-at : (j x r : ℕ) → j ≡ 3 * x + r → r < 3 → x < length ns → get_or ws j 0 ≡ get_or (words st hop) j 0
  unfolding words
  word-at j x zero e u v =
      let q : j ≡ 3 * x = omega arith in
      rw q ((all.each x v).bits ∙ sym (words-at st hop ns 1 0 x (node 0 0) v).0)
  word-at j x (suc zero) e u v = rw e ((all.each x v).child ∙ sym (words-at st hop ns 1 0 x (node 0 0) v).1)
  word-at j x (suc (suc zero)) e u v = rw e ((all.each x v).base ∙ sym ((words-at st hop ns 1 0 x (node 0 0) v).2 ∙ omega arith))
  word-at j x (suc (suc (suc r))) e u v = absurd (omega arith)

  -- hop j is one of some node, at some bit
  hop-at : (j : ℕ) → j < length (hops st hop) → get_or hs j 0 ≡ get_or (hops st hop) j 0
  unfolding hops hops_of
  hop-at j u =
      let g = gather-split (hops_of hop) ns (node 0 0) j u in
      let n = node_no st g.0 in
      let k = count-hit (inner hop n) 15 g.1 (rw picked-length at g.3) in
      let e : before (hops_of hop) ns g.0 + count (inner hop n) k.0 ≡ j = omega (arith, g.4, k.3) in
      subst (λ (y : ℕ). get_or hs y 0 ≡ get_or (hops st hop) y 0) e
      ((all.each g.0 g.2).put k.0 k.1 k.2 ∙ sym (hop-place st hop g.0 n k.0 g.2 refl k.1 k.2).1)

  words-filled : ws ≡ zero_padded (length ws) (words st hop)
  words-filled =
      pad-ext ws (words st hop) (omega (arith, size, all.words_room)) (λ j u. word-at j (j / 3) (j % 3) (omega arith) (omega arith) (omega (arith, size)))
      (λ j u. all.rest j (omega (arith, size)))

  hops-filled : hs ≡ zero_padded (length hs) (hops st hop)
  hops-filled = pad-ext hs (hops st hop) all.hops_room hop-at all.blank

  -- and so both arrays are the image
  pub all-filled : (ws ≡ (image_by st hop (length ws) (length hs)).words) × (hs ≡ (image_by st hop (length ws) (length hs)).hops)
  unfolding image_by
  all-filled = (words-filled, hops-filled)
