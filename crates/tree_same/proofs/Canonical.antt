-- Where each node that a path leads to has the bits of the routes, and the nodes stand in the fixed order, every node stands at its place: each is
-- a child of an earlier one, whose place is right already. So the paths and the order together leave one image only.
use mathlib.Core.Path.{◌≡◌, refl, sym, ◌∙◌, ap, ap₂, subst}
use mathlib.Core.Logic.{◌⊎◌, inl, inr}
use mathlib.Core.Bool.{Bool, true, false}
use mathlib.Core.List.{List}
use Prim.Native.Nat.{ℕ, zero, suc, ◌+◌, ◌*◌, ◌/◌, ◌%◌, ◌^◌, ◌≤◌, ◌<◌}
use native.Mathlib.Nat.{not-suc-le-zero, le_step, le_refl}
use native.Mathlib.Numerals.{add-one}
use native.Mathlib.Omega.{arith}
use lib.Pow.{shr_mod}
use lib.Count.{ones}
use lib.ListN.{length, get_or}
use Rattle.bits.specs.Count.{count}
use Rattle.bits.proofs.Bools.{below?}
use Rattle.tree_image.specs.Node.{bits_of, child_of, base_of}
use Rattle.tree_image.specs.Parts.{gather, before}
use Rattle.tree_image.specs.Image.{Node, node, inner, bit_hop, child, set_bit, word, kids, hops_of, nodes}
use Rattle.tree_image.proofs.Counts.{count-hit}
use Rattle.bits.proofs.Packed.{packed_lt, rank-count, upper-count}
use Rattle.tree_image.proofs.Parts.{picked-length, picked-at, gather-at, gather-split, before-zero, before-next, before-all}
use Rattle.tree_image.proofs.Nodes.{nodes-fix, up_next, ahead, inner-bit, child-bit}
use Rattle.tree_same.specs.Read.{reached}
use Rattle.tree_same.specs.Order.{exts, ints, Order, stands_at}

module _ (st : ℕ → ℕ → Bool) (hop : ℕ → ℕ → ℕ) where
  -- the extending ones of a node are its children, the internal ones its hops
  pub ext-ones : (n : Node) → ones (word st hop n / 2 ^ 16) ≡ length (kids st n)
  unfolding kids word
  ext-ones n =
      ap ones (sym (shr_mod {n = word st hop n} 16 16 (packed_lt (set_bit st hop n) 32)))
      ∙ upper-count (word st hop n) (child st n) 16 (λ i l. child-bit st hop n i l)
      ∙ sym (picked-length (child st n) (λ c. node (n.depth + 1) (n.path * 16 + c)) 16)

  pub int-ones : (n : Node) → ones (word st hop n % 2 ^ 15) ≡ length (hops_of hop n)
  unfolding hops_of
  int-ones n =
      rank-count (word st hop n) (inner hop n) 15 (λ i l. inner-bit st hop n i l)
      ∙ sym (picked-length (inner hop n) (bit_hop hop n) 15)

  module _ (ws : List ℕ) where
    abbrev at : ℕ → Node
    at x = get_or (nodes st) x (node 0 0)

    pub exts-before : (i : ℕ) → i ≤ length (nodes st) → ((z : ℕ) → z < i → bits_of ws z ≡ word st hop (at z)) → exts ws i ≡ before (kids st) (nodes st) i
    unfolding exts
    exts-before zero h b = sym (before-zero (kids st) (nodes st))
    exts-before (suc i) h b =
        ap₂ (λ (x y : ℕ). x + y) (exts-before i (omega arith) (λ z l. b z (le_step l)))
        (ap (λ (w : ℕ). ones (w / 2 ^ 16)) (b i (le_refl (suc i))) ∙ ext-ones (at i))
        ∙ sym (before-next (kids st) (nodes st) i (node 0 0) h) ∙ ap (before (kids st) (nodes st)) (add-one i)

    pub ints-before : (i : ℕ) → i ≤ length (nodes st) → ((z : ℕ) → z < i → bits_of ws z ≡ word st hop (at z)) → ints ws i ≡ before (hops_of hop) (nodes st) i
    unfolding ints
    ints-before zero h b = sym (before-zero (hops_of hop) (nodes st))
    ints-before (suc i) h b =
        ap₂ (λ (x y : ℕ). x + y) (ints-before i (omega arith) (λ z l. b z (le_step l)))
        (ap (λ (w : ℕ). ones (w % 2 ^ 15)) (b i (le_refl (suc i))) ∙ int-ones (at i))
        ∙ sym (before-next (hops_of hop) (nodes st) i (node 0 0) h) ∙ ap (before (hops_of hop) (nodes st)) (add-one i)

    -- all children of all nodes: every node but the root
    pub all-kids : ((p : ℕ) → st 9 p ≡ false) → 1 + before (kids st) (nodes st) (length (nodes st)) ≡ length (nodes st)
    all-kids nine = omega (arith, before-all (kids st) (nodes st), ap length (nodes-fix st nine))

    -- the first n nodes stand in the fixed order, and the nodes that paths lead to have the bits of the routes
    module _ (nine : (p : ℕ) → st 9 p ≡ false) (n : ℕ) (order : Order ws n)
        (right : (m p : ℕ) → stands_at st m p ≡ true → bits_of ws (reached ws m p) ≡ word st hop (node m p)) where
      -- node x is where its path leads
      abbrev Placed : ℕ → Type 0
      Placed x = (reached ws (at x).depth (at x).path ≡ x) × (stands_at st (at x).depth (at x).path ≡ true)

      bits-placed : (x : ℕ) → Placed x → bits_of ws x ≡ word st hop (at x)
      bits-placed x t = ap (bits_of ws) (sym t.0) ∙ right (at x).depth (at x).path t.1

      child-placed : (x y r : ℕ) → y < n → y < length (nodes st) → r < length (kids st (at y)) → before (kids st) (nodes st) y + r ≡ x → Placed y
          → ((z : ℕ) → z < y → bits_of ws z ≡ word st hop (at z)) → Placed (suc x)
      unfolding kids reached stands_at
      child-placed x y r ln ly lr e t b =
          let o = at y in
          let k = count-hit (child st o) 16 r (rw picked-length at lr) in
          let g = gather-at (kids st) (nodes st) y r (node 0 0) (node 0 0) ly lr in
          let is : at (suc x) ≡ node (suc o.depth) (o.path * 16 + k.0) =
          ap (λ (ms : List Node). get_or ms (suc x) (node 0 0)) (nodes-fix st nine)
          ∙ ap (λ (i : ℕ). get_or (gather (kids st) (nodes st)) i (node 0 0)) (sym e) ∙ g.1
          ∙ ap (λ (i : ℕ). get_or (kids st o) i (node 0 0)) (sym k.3)
          ∙ picked-at (child st o) (λ c. node (o.depth + 1) (o.path * 16 + c)) 16 k.0 (node 0 0) k.1 k.2
          ∙ ap (λ (i : ℕ). node i (o.path * 16 + k.0)) (add-one o.depth) in
          let up : (o.path * 16 + k.0) / 16 ≡ o.path = omega (arith, k.1) in
          let low : (o.path * 16 + k.0) % 16 ≡ k.0 = omega (arith, k.1) in
          let under : ones (bits_of ws y / 2 ^ 16 % 2 ^ k.0) ≡ count (child st o) k.0 =
          ap (λ (w : ℕ). ones (w / 2 ^ 16 % 2 ^ k.0)) (bits-placed y t)
          ∙ upper-count (word st hop o) (child st o) k.0 (λ i l. child-bit st hop o i (omega (arith, k.1))) in
          let s : st (suc o.depth) (o.path * 16 + k.0) ≡ true = subst (λ (d : ℕ). st d (o.path * 16 + k.0) ≡ true) (add-one o.depth) k.2 in
          rw is (
            rw (up, low, t.0) (omega (arith, under, order.child y ln, exts-before y (omega arith) b, k.3)),
            s,
          )

      placed : (b x : ℕ) → x < b → x < n → x < length (nodes st) → Placed x
      unfolding reached stands_at
      placed zero x l v u = absurd (not-suc-le-zero l)
      placed (suc b) zero l v u = rw (ap (λ (ms : List Node). get_or ms 0 (node 0 0)) (up_next st 8)) (refl, refl)
      placed (suc b) (suc x) l v u =
          let g = gather-split (kids st) (nodes st) (node 0 0) x (omega (arith, ap length (nodes-fix st nine))) in
          let small : g.0 ≤ x = omega (arith, g.4, ahead st 9 g.0 (omega arith) g.2) in
          child-placed x g.0 g.1 (omega arith) g.2 g.3 g.4 (placed b g.0 (omega arith) (omega arith) g.2)
          (λ z a. bits-placed z (placed b z (omega arith) (omega arith) (omega (arith, g.2))))

      bits_at : (x : ℕ) → x < n → x < length (nodes st) → bits_of ws x ≡ word st hop (at x)
      bits_at x v u = bits-placed x (placed (suc x) x (le_refl (suc x)) v u)

      -- the path of node x leads to it
      pub path-leads : (x : ℕ) → x < n → x < length (nodes st) → (reached ws (at x).depth (at x).path ≡ x) × (stands_at st (at x).depth (at x).path ≡ true)
      path-leads x v u = placed (suc x) x (le_refl (suc x)) v u

      -- these are the nodes
      pub all-nodes : n ≡ length (nodes st)
      all-nodes = go (below? n (length (nodes st))) (below? (length (nodes st)) n)
        where
          go : (n < length (nodes st)) ⊎ (length (nodes st) ≤ n) → (length (nodes st) < n) ⊎ (n ≤ length (nodes st)) → n ≡ length (nodes st)
          go (inl u) v = absurd (omega (arith, order.whole, ahead st 9 n (omega arith) u, exts-before n (omega arith) (λ z l. bits_at z l (omega arith))))
          go (inr u) (inl v) =
              let k = exts-before (length (nodes st)) (omega arith) (λ z l. bits_at z (omega arith) l) in
              absurd (omega (arith, order.fewest (length (nodes st)) v, all-kids nine))
          go (inr u) (inr v) = omega arith

      -- and each has its bits and its bases
      pub canonical : (x : ℕ) → x < n
          → (bits_of ws x ≡ word st hop (at x)) × (child_of ws x ≡ 1 + before (kids st) (nodes st) x) × (base_of ws x ≡ before (hops_of hop) (nodes st) x)
      canonical x v =
          let e = all-nodes in (
            bits_at x v (omega arith),
            order.child x v ∙ ap (λ (y : ℕ). 1 + y) (exts-before x (omega arith) (λ z a. bits_at z (omega arith) (omega arith))),
            order.base x v ∙ ints-before x (omega arith) (λ z a. bits_at z (omega arith) (omega arith)),
          )
