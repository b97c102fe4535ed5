-- Arrays hold the routes of (st, hop) exactly when they are their image (`holds-image`, `image-holding`), and the path of each node that stands then
-- leads to its place in the fixed order.
use mathlib.Core.Path.{◌≡◌, refl, sym, ◌∙◌, ap, subst}
use mathlib.Core.Bool.{Bool, true, false}
use mathlib.Core.List.{List}
use Prim.Native.Nat.{ℕ, ◌+◌, ◌*◌, ◌%◌, ◌^◌, ◌≤◌, ◌<◌}
use native.Mathlib.Nat.{le_refl}
use native.Mathlib.Omega.{arith}
use lib.Count.{ones}
use lib.ListN.{length, get_or}
use Rattle.bits.specs.Count.{count}
use Rattle.bits.proofs.Packed.{rank-count}
use Rattle.tree_image.specs.Node.{bits_of, child_of, base_of}
use Rattle.tree_image.specs.Parts.{before, zero_padded}
use Rattle.tree_image.specs.Image.{node, inner, bit_hop, word, kids, hops_of, nodes, words_from, words, hops, image_by}
use Rattle.tree_image.specs.Done.{node_no, Done, AllDone}
use Rattle.tree_image.proofs.Parts.{before-all}
use Rattle.tree_image.proofs.Nodes.{words-length, ahead, inner-bit}
use Rattle.tree_image.proofs.Holds.{pad-length, pad-past, node-words, hop-found}
use Rattle.tree_image.proofs.Filled.{all-filled}
use Rattle.tree_same.specs.Read.{reached}
use Rattle.tree_same.specs.Order.{ints, Order, stands_at}
use Rattle.tree_same.specs.Holding.{Holding}
use Rattle.tree_same.proofs.Back.{Shaped, leads-is}
use Rattle.tree_same.proofs.Canonical.{path-leads, all-nodes, all-kids, canonical, exts-before, ints-before}

module _ (st : ℕ → ℕ → Bool) (hop : ℕ → ℕ → ℕ) (ws hs : List ℕ) (n : ℕ) (nine : (p : ℕ) → st 9 p ≡ false) (h : Holding st hop ws hs n) where
  pub nodes-are : n ≡ length (nodes st)
  nodes-are = all-nodes st hop ws nine n h.order h.right

  node-is : (x : ℕ) → x < n
      → (bits_of ws x ≡ word st hop (node_no st x)) × (child_of ws x ≡ 1 + before (kids st) (nodes st) x) × (base_of ws x ≡ before (hops_of hop) (nodes st) x)
  node-is = canonical st hop ws nine n h.order h.right

  pub hops-are : ints ws n ≡ length (hops st hop)
  unfolding hops
  hops-are =
      ints-before st hop ws n (omega (arith, nodes-are)) (λ z l. (node-is z l).0)
      ∙ ap (before (hops_of hop) (nodes st)) nodes-are ∙ before-all (hops_of hop) (nodes st)

  put-at : (x b : ℕ) → x < n → b < 15 → inner hop (node_no st x) b ≡ true
      → get_or hs (before (hops_of hop) (nodes st) x + count (inner hop (node_no st x)) b) 0 ≡ bit_hop hop (node_no st x) b
  put-at x b l u o =
      let at = node_no st x in
      let k = path-leads st hop ws nine n h.order h.right x l (omega (arith, nodes-are)) in
      let c : ones (bits_of ws x % 2 ^ b) ≡ count (inner hop at) b =
      ap (λ (y : ℕ). ones (y % 2 ^ b)) (node-is x l).0 ∙ rank-count (word st hop at) (inner hop at) b (λ i v. inner-bit st hop at i (omega arith)) in
      let q : base_of ws x + ones (bits_of ws x % 2 ^ b) ≡ before (hops_of hop) (nodes st) x + count (inner hop at) b = omega (arith, (node-is x l).2, c) in
      ap (λ (y : ℕ). get_or hs y 0) (sym q)
      ∙ subst (λ (y : ℕ). get_or hs (base_of ws y + ones (bits_of ws y % 2 ^ b)) 0 ≡ bit_hop hop at b) k.0 (h.put at.depth at.path b k.1 u o)

  node_done : (x : ℕ) → x < n → Done st hop ws hs x
  node_done x l = let k = node-is x l in record { bits = k.0; child = k.1; base = k.2; put = λ b. put-at x b l }

  pub holds-done : AllDone st hop ws hs
  holds-done = record {
    words_room = omega (arith, nodes-are, h.order.lent);
    hops_room = omega (arith, hops-are, h.room);
    each = λ x l. node_done x (omega (arith, nodes-are));
    rest = λ j l. h.rest j (omega (arith, nodes-are));
    blank = λ j l. h.blank j (omega (arith, hops-are));
  }

  pub holds-image : (ws ≡ (image_by st hop (length ws) (length hs)).words) × (hs ≡ (image_by st hop (length ws) (length hs)).hops)
  holds-image = all-filled st hop ws hs holds-done

-- the path of a node that stands leads to its place in the order
pub stands-found : (st : ℕ → ℕ → Bool) (hop : ℕ → ℕ → ℕ) (ws hs : List ℕ) (n : ℕ) (f : Shaped st hop) → Holding st hop ws hs n
    → (m p : ℕ) → stands_at st m p ≡ true → (reached ws m p < n) × (node_no st (reached ws m p) ≡ node m p)
unfolding image_by
stands-found st hop ws hs n f h m p e =
    let i = holds-image st hop ws hs n f.agree.nine h in
    let k = holds-done st hop ws hs n f.agree.nine h in
    let r = (leads-is st hop f (length ws) (length hs) k.words_room k.hops_room m p).1 e in
    let q = subst (λ (v : List ℕ). (reached v m p < length (nodes st)) × (node_no st (reached v m p) ≡ node m p)) (sym i.0) r in
    (omega (arith, q.0, nodes-are st hop ws hs n f.agree.nine h), q.1)

-- the image holds its routes
module _ (st : ℕ → ℕ → Bool) (hop : ℕ → ℕ → ℕ) (ok : Shaped st hop) (w h : ℕ) (room : 3 * length (nodes st) ≤ w) (space : length (hops st hop) ≤ h) where
  abbrev ws : List ℕ
  ws = zero_padded w (words st hop)

  abbrev hs : List ℕ
  hs = zero_padded h (hops st hop)

  bits_at : (x : ℕ) → x < length (nodes st) → bits_of ws x ≡ word st hop (node_no st x)
  bits_at x l = (node-words st hop ok.agree w h room space x (node_no st x) l refl).0

  pub image-ints : ints ws (length (nodes st)) ≡ length (hops st hop)
  unfolding hops
  image-ints = ints-before st hop ws (length (nodes st)) (le_refl _) bits_at ∙ before-all (hops_of hop) (nodes st)

  pub image-order : Order ws (length (nodes st))
  unfolding words
  image-order = record {
    lent = omega (arith, pad-length w (words st hop) (omega (arith, size)), size);
    whole = omega (arith, exts-before st hop ws (length (nodes st)) (le_refl _) bits_at, all-kids st hop ws ok.agree.nine);
    fewest = λ i l. omega (arith, ahead st 9 i (omega arith) l, exts-before st hop ws i (omega arith) (λ z u. bits_at z (omega arith)));
    child = λ i l.
        (node-words st hop ok.agree w h room space i (node_no st i) l refl).1
        ∙ ap (λ (y : ℕ). 1 + y) (sym (exts-before st hop ws i (omega arith) (λ z u. bits_at z (omega arith))));
    base = λ i l.
        (node-words st hop ok.agree w h room space i (node_no st i) l refl).2
        ∙ sym (ints-before st hop ws i (omega arith) (λ z u. bits_at z (omega arith)));
  }
    where
      size : length (words_from st hop (nodes st) 1 0) ≡ 3 * length (nodes st)
      size = words-length st hop (nodes st) 1 0

  pub image-holding : Holding st hop (image_by st hop w h).words (image_by st hop w h).hops (length (nodes st))
  unfolding image_by words
  image-holding = record {
    order = image-order;
    right = λ m p e. let f = (leads-is st hop ok w h room space m p).1 e in bits_at (reached ws m p) f.0 ∙ ap (word st hop) f.1;
    put = λ m p b e l o.
        let f = (leads-is st hop ok w h room space m p).1 e in
        (hop-found st hop ok.agree w h room space (reached ws m p) (node m p) b f.0 f.1 l o).1;
    room = omega (arith, image-ints, pad-length h (hops st hop) space);
    rest = λ j l. pad-past w (words st hop) j (omega (arith, words-length st hop (nodes st) 1 0));
    blank = λ j l. pad-past h (hops st hop) j (omega (arith, image-ints));
  }
