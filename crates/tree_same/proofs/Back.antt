-- The routes are read back out of their image: the path of each route leads to its node, and the bit there to its hop, since both places are those
-- of the fixed order.
use mathlib.Core.Path.{◌≡◌, refl, sym, ◌∙◌, ap, ap₂}
use mathlib.Core.Logic.{◌⊎◌, inl, inr}
use mathlib.Core.Bool.{Bool, true, false, cond, ◌&&◌, true≢false}
use mathlib.Core.List.{List}
use Prim.Native.Nat.{ℕ, zero, suc, ◌+◌, ◌-◌, ◌*◌, ◌/◌, ◌%◌, ◌^◌, ◌≤◌, ◌<◌}
use native.Mathlib.Nat.{mod-lt, div-eq_of_lt}
use native.Mathlib.Omega.{arith}
use lib.Dec.{ltb, leb}
use lib.Pow.{split, pow_pos}
use lib.ListN.{length, get_or}
use borrow.Author.Tests.{ltb-false, le-leb, eqb-true, eq-eqb}
use Rattle.bits.specs.Bit.{bit_at}
use Rattle.bits.specs.Count.{bit}
use Rattle.bits.proofs.Bools.{decided, both, and_split, untrue, below?}
use Rattle.tree_image.specs.Node.{bits_of, is_set}
use Rattle.tree_image.specs.Parts.{zero_padded}
use Rattle.tree_image.specs.Image.{Node, node, bit_hop, child, nodes, words, hops}
use Rattle.tree_image.proofs.Nodes.{up_next, inner-bit, child-bit}
use Rattle.tree_image.proofs.Holds.{Agree, bit-hop, node-words, child-found, hop-found}
use Rattle.tree_same.specs.Read.{reached, leads, hop_at, path_of, bit_for, read_out}
use Rattle.tree_same.specs.Order.{stands_at}
use Rattle.tree_same.proofs.Lists.{Hopping}

-- a bit that is a test's is set where the test passes
pub bit-set-is : (w k : ℕ) (b : Bool) → bit_at w k ≡ bit b → is_set w k ≡ b
bit-set-is w k true e = rw e
bit-set-is w k false e = rw e

-- a route's bits are its path and the bits in its node
pub parts-of : (l q : ℕ) → (4 * (l / 4) + l % 4 ≡ l) × (path_of l q * 2 ^ (l % 4) + q % 2 ^ (l % 4) ≡ q)
parts-of l q = (omega arith, split q (l % 4))

-- which nodes stand, and the hops: parents stand, and hops are those of prefixes
pub record Shaped (st : ℕ → ℕ → Bool) (hop : ℕ → ℕ → ℕ) : Type 0 where
  pub agree : Agree st hop
  pub hopping : Hopping hop
  pub up : (m p : ℕ) → st (suc m) p ≡ true → stands_at st m (p / 16) ≡ true

module _ (st : ℕ → ℕ → Bool) (hop : ℕ → ℕ → ℕ) (ok : Shaped st hop) where
  -- the node of a route stands
  pub route-stood : (l q : ℕ) → 0 < hop l q → stands_at st (l / 4) (path_of l q) ≡ true
  unfolding stands_at
  route-stood l q h = go (l / 4) refl
    where
      r : (l ≤ 32) × (q < 2 ^ l)
      r = ok.hopping.range l q h

      go : (m : ℕ) → l / 4 ≡ m → stands_at st m (path_of l q) ≡ true
      go zero e =
          let z : l % 4 ≡ l = omega arith in
          eq-eqb (path_of l q) 0 (ap (λ (n : ℕ). q / 2 ^ n) z ∙ div-eq_of_lt r.1)
      go (suc m) e =
          let z : l - 4 * suc m ≡ l % 4 = omega arith in
          rw z at (ok.agree.told (suc m) l q (omega arith) (omega arith) r.0 h)

  module _ (w h : ℕ) (room : 3 * length (nodes st) ≤ w) (space : length (hops st hop) ≤ h) where
    abbrev ws : List ℕ
    ws = zero_padded w (words st hop)

    abbrev hs : List ℕ
    hs = zero_padded h (hops st hop)

    -- the node is found at its place
    abbrev Found : ℕ → ℕ → Type 0
    Found m p = (reached ws m p < length (nodes st)) × (get_or (nodes st) (reached ws m p) (node 0 0) ≡ node m p)

    pub leads-is : (m p : ℕ) → (leads ws m p ≡ stands_at st m p) × (stands_at st m p ≡ true → Found m p)
    unfolding leads reached stands_at
    leads-is zero p = (
      refl,
      (λ e. (omega (arith, ap length (up_next st 8)), ap (λ (x : List Node). get_or x 0 (node 0 0)) (up_next st 8) ∙ ap (node 0) (sym (eqb-true p 0 e)))),
    )
    leads-is (suc m) p = let ih = leads-is m (p / 16) in go (decided (stands_at st m (p / 16))) ih.0 ih.1
      where
        i : ℕ
        i = reached ws m (p / 16)

        c : ℕ
        c = p % 16

        n : Node
        n = node m (p / 16)

        whole : child st n c ≡ st (suc m) p
        whole = let a : m + 1 ≡ suc m = omega arith in let b : p / 16 * 16 + p % 16 ≡ p = omega arith in ap₂ st a b

        on : (i < length (nodes st)) × (get_or (nodes st) i (node 0 0) ≡ n) → is_set (bits_of ws i) (16 + c) ≡ st (suc m) p
        on f =
            let k = node-words st hop ok.agree w h room space i n f.0 f.1 in
            bit-set-is (bits_of ws i) (16 + c) (st (suc m) p) (rw k.0 (child-bit st hop n c (omega arith)) ∙ ap bit whole)

        go : (stands_at st m (p / 16) ≡ true) ⊎ (stands_at st m (p / 16) ≡ false)
            → leads ws m (p / 16) ≡ stands_at st m (p / 16) → (stands_at st m (p / 16) ≡ true → Found m (p / 16))
            → ((leads ws m (p / 16) && is_set (bits_of ws i) (16 + c)) ≡ st (suc m) p) × (st (suc m) p ≡ true → Found (suc m) p)
        go (inl t) a f =
            let g = f t in (
              rw (a, t) (on g),
              (λ e.
                  let x = child-found st hop ok.agree w h room space i n c g.0 g.1 (omega arith) (whole ∙ e) in
                  let s : m + 1 ≡ suc m = omega arith in
                  let b : p / 16 * 16 + p % 16 ≡ p = omega arith in
                  (x.0, x.1 ∙ ap₂ node s b)),
            )
        go (inr t) a f =
            let z : st (suc m) p ≡ false = untrue (st (suc m) p) (λ e. true≢false (sym (ok.up m p e) ∙ t)) in
            (rw (a, t) (sym z), (λ e. absurd (true≢false (sym e ∙ z))))

    pub reads-back : (l q : ℕ) → read_out ws hs l q ≡ hop l q
    unfolding read_out
    reads-back l q = go (decided (leb l 32 && leads ws (l / 4) (path_of l q)))
      where
        m : ℕ
        m = l / 4

        p : ℕ
        p = path_of l q

        i : ℕ
        i = reached ws (l / 4) (path_of l q)

        b : ℕ
        b = bit_for l q

        n : Node
        n = node (l / 4) (path_of l q)

        mine : (bit_for l q < 15) × (bit_hop hop n b ≡ hop l q)
        mine =
            let s = bit-hop hop n (l % 4) (q % 2 ^ (l % 4)) (omega arith) (mod-lt q (pow_pos (l % 4))) in
            let t = parts-of l q in
            (s.0, s.1 ∙ ap₂ hop t.0 t.1)

        hop-of-bit : Found (l / 4) (path_of l q) → (ltb 0 (hop l q) ≡ true) ⊎ (ltb 0 (hop l q) ≡ false) → hop_at ws hs i b ≡ hop l q
        hop-of-bit f o = at o
          where
            is : is_set (bits_of ws i) b ≡ ltb 0 (hop l q)
            is =
                let k = node-words st hop ok.agree w h room space i n f.0 f.1 in
                bit-set-is (bits_of ws i) b (ltb 0 (hop l q)) (rw k.0 (inner-bit st hop n b mine.0) ∙ ap (λ (x : ℕ). bit (ltb 0 x)) mine.1)

            at : (ltb 0 (hop l q) ≡ true) ⊎ (ltb 0 (hop l q) ≡ false) → hop_at ws hs i b ≡ hop l q
            at (inl t) = rw (is, t) ((hop-found st hop ok.agree w h room space i n b f.0 f.1 mine.0 (ap (ltb 0) mine.1 ∙ t)).1 ∙ mine.1)
            at (inr t) = rw (is, t) (omega (arith, ltb-false 0 (hop l q) t))

        none : (leb l 32 && leads ws (l / 4) (path_of l q)) ≡ false → (0 < hop l q) ⊎ (hop l q ≤ 0) → 0 ≡ hop l q
        none t (inr z) = omega arith
        none t (inl z) = absurd (true≢false (sym (both (le-leb l 32 (ok.hopping.range l q z).0) ((leads-is (l / 4) (path_of l q)).0 ∙ route-stood l q z)) ∙ t))

        go : ((leb l 32 && leads ws (l / 4) (path_of l q)) ≡ true) ⊎ ((leb l 32 && leads ws (l / 4) (path_of l q)) ≡ false)
            → cond (leb l 32 && leads ws (l / 4) (path_of l q)) (hop_at ws hs i b) 0 ≡ hop l q
        go (inl t) =
            let s = and_split (leb l 32) (leads ws (l / 4) (path_of l q)) t in
            let k = leads-is (l / 4) (path_of l q) in
            rw t (hop-of-bit (k.1 (sym k.0 ∙ s.1)) (decided (ltb 0 (hop l q))))
        go (inr t) = rw t (none t (below? 0 (hop l q)))
