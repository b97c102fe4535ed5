-- An image holds its routes: every node stands at the place that its parent names, and every hop at the place that its bit names.
-- Both places are a base and the ones below a bit, and both are the place in the fixed order.
use mathlib.Core.Path.{◌≡◌, refl, sym, ◌∙◌, ap}
use mathlib.Core.Bool.{Bool, true, false, true≢false}
use mathlib.Core.List.{List}
use Prim.Native.Nat.{ℕ, zero, suc, ◌+◌, ◌-◌, ◌*◌, ◌/◌, ◌%◌, ◌^◌, ◌≤◌, ◌<◌}
use native.Mathlib.Nat.{zero-add}
use native.Mathlib.Omega.{arith}
use lib.Count.{ones}
use lib.ListN.{length, get_or, replicate, length-append, length-replicate, get_or-append}
use lib.Seq.{get_or-append-add}
use borrow.Author.Tests.{lt-ltb, le-ltb, ltb-true, ltb-false}
use Rattle.bits.specs.Bit.{bit_at}
use Rattle.bits.specs.Count.{bit, count}
use Rattle.bits.proofs.Tabs.{get_d-zeros}
use Rattle.tree_image.specs.Node.{bits_of, child_of, base_of, child_at}
use Rattle.tree_image.specs.Parts.{before, zero_padded}
use Rattle.tree_image.specs.Image.{Node, node, bit_hop, child, inner, word, kids, hops_of, nodes, words, hops}
use Rattle.tree_image.proofs.Counts.{count_less}
use Rattle.bits.proofs.Packed.{rank-count, upper-count}
use Rattle.tree_image.proofs.Parts.{picked-length, picked-at, gather-at}
use Rattle.tree_image.proofs.Nodes.{nodes-fix, words-length, words-at, inner-bit, clear-bit, child-bit}
use Rattle.tree_image.proofs.Longest.{NodeOf, NoneBelow, SubtreeHolds}

pub pad-length : (n : ℕ) (xs : List ℕ) → length xs ≤ n → length (zero_padded n xs) ≡ n
pad-length n xs h = simp (length-append, length-replicate) (omega arith)

pub pad-at : (n : ℕ) (xs : List ℕ) (i : ℕ) → i < length xs → get_or (zero_padded n xs) i 0 ≡ get_or xs i 0
pad-at n xs i h = get_or-append xs (replicate (n - length xs) 0) 0 i h

pub pad-past : (n : ℕ) (xs : List ℕ) (j : ℕ) → length xs ≤ j → get_or (zero_padded n xs) j 0 ≡ 0
pad-past n xs j l =
    let e : j ≡ length xs + (j - length xs) = omega arith in
    ap (λ (k : ℕ). get_or (zero_padded n xs) k 0) e
    ∙ get_or-append-add xs (replicate (n - length xs) 0) (j - length xs) 0 ∙ get_d-zeros (n - length xs) (j - length xs)

bit-on : (b : Bool) → bit b ≡ 1 → b ≡ true
bit-on true e = refl
bit-on false e = absurd (omega arith)

bit-off : (b : Bool) → bit b ≡ 0 → b ≡ false
bit-off false e = refl
bit-off true e = absurd (omega arith)

-- what the standing nodes and the hops have to do with each other: below the root, the nodes on the path of a hop stand
pub record Agree (st : ℕ → ℕ → Bool) (hop : ℕ → ℕ → ℕ) : Type 0 where
  pub nine : (p : ℕ) → st 9 p ≡ false
  pub small : (l q : ℕ) → hop l q ≤ 32767
  pub told : (m l q : ℕ) → 0 < m → 4 * m ≤ l → l ≤ 32 → 0 < hop l q → st m (q / 2 ^ (l - 4 * m)) ≡ true

-- the internal bit of the inner length j and the bits u
pub bit-hop : (hop : ℕ → ℕ → ℕ) (n : Node) (j u : ℕ) → j < 4 → u < 2 ^ j → (2 ^ j - 1 + u < 15) ×
    (bit_hop hop n (2 ^ j - 1 + u) ≡ hop (4 * n.depth + j) (n.path * 2 ^ j + u))
unfolding bit_hop
bit-hop hop n zero u l h =
    let z : u ≡ 0 = omega arith in
    (omega arith, rw z refl)
bit-hop hop n (suc zero) u l h =
    let e : 1 + u + 1 - 2 ≡ u = omega arith in
    (omega arith, rw (le-ltb (1 + u) 1 (omega arith), lt-ltb (1 + u) 3 (omega arith), e))
bit-hop hop n (suc (suc zero)) u l h =
    let e : 3 + u + 1 - 4 ≡ u = omega arith in
    (omega arith, rw (le-ltb (3 + u) 1 (omega arith), le-ltb (3 + u) 3 (omega arith), lt-ltb (3 + u) 7 (omega arith), e))
bit-hop hop n (suc (suc (suc zero))) u l h =
    let e : 7 + u + 1 - 8 ≡ u = omega arith in
    (omega arith, rw (le-ltb (7 + u) 1 (omega arith), le-ltb (7 + u) 3 (omega arith), le-ltb (7 + u) 7 (omega arith), e))
bit-hop hop n (suc (suc (suc (suc j)))) u l h = absurd (omega arith)

-- a child's place in the order of nodes: the root, all children of earlier nodes, and those of the bits below
pub child-place : (st : ℕ → ℕ → Bool) → ((p : ℕ) → st 9 p ≡ false) → (i : ℕ) (n : Node) (c : ℕ) → i < length (nodes st) → get_or (nodes st) i
    (node 0 0) ≡ n → c < 16 → child st n c ≡ true
    → (1 + before (kids st) (nodes st) i + count (child st n) c < length (nodes st))
    × (get_or (nodes st) (1 + before (kids st) (nodes st) i + count (child st n) c) (node 0 0) ≡ node (n.depth + 1) (n.path * 16 + c))
unfolding kids
child-place st nine i n c l e t o =
    let ns = nodes st in
    let less : count (child st n) c < length (kids st (get_or ns i (node 0 0))) =
    rw e (rw (picked-length (child st n) (λ x. node (n.depth + 1) (n.path * 16 + x)) 16) (count_less (child st n) 16 c t o)) in
    let g = gather-at (kids st) ns i (count (child st n) c) (node 0 0) (node 0 0) l less in
    let q : 1 + before (kids st) ns i + count (child st n) c ≡ suc (before (kids st) ns i + count (child st n) c) = omega arith in
    let f = nodes-fix st nine in (
      omega (arith, g.0, ap length f),
      rw q (ap (λ (x : List Node). get_or x (suc (before (kids st) ns i + count (child st n) c)) (node 0 0)) f ∙ g.1
          ∙ rw e (picked-at (child st n) (λ x. node (n.depth + 1) (n.path * 16 + x)) 16 c (node 0 0) t o)),
    )

-- a hop's place in the order of hops: all hops of earlier nodes, and those of the bits below
pub hop-place : (st : ℕ → ℕ → Bool) (hop : ℕ → ℕ → ℕ) (i : ℕ) (n : Node) (b : ℕ) → i < length (nodes st) → get_or (nodes st) i (node 0 0) ≡ n → b < 15
    → inner hop n b ≡ true
    → (before (hops_of hop) (nodes st) i + count (inner hop n) b < length (hops st hop)) ×
    (get_or (hops st hop) (before (hops_of hop) (nodes st) i + count (inner hop n) b) 0 ≡ bit_hop hop n b)
unfolding hops hops_of
hop-place st hop i n b l e t o =
    let less : count (inner hop n) b < length (hops_of hop (get_or (nodes st) i (node 0 0))) =
    rw e (rw (picked-length (inner hop n) (bit_hop hop n) 15) (count_less (inner hop n) 15 b t o)) in
    let g = gather-at (hops_of hop) (nodes st) i (count (inner hop n) b) (node 0 0) 0 l less in
    (g.0, g.1 ∙ rw e (picked-at (inner hop n) (bit_hop hop n) 15 b 0 t o))

module _ (st : ℕ → ℕ → Bool) (hop : ℕ → ℕ → ℕ) (ok : Agree st hop) (w h : ℕ) (room : 3 * length (nodes st) ≤ w) (space : length (hops st hop) ≤ h) where
  abbrev ws : List ℕ
  ws = zero_padded w (words st hop)

  abbrev hs : List ℕ
  hs = zero_padded h (hops st hop)

  abbrev ns : List Node
  ns = nodes st

  -- the three words of node i
  pub node-words : (i : ℕ) (n : Node) → i < length ns → get_or ns i (node 0 0) ≡ n
      → (bits_of ws i ≡ word st hop n) × (child_of ws i ≡ 1 + before (kids st) ns i) × (base_of ws i ≡ before (hops_of hop) ns i) × (i < length ws / 3)
  unfolding words
  node-words i n l e =
      let k = words-at st hop ns 1 0 i (node 0 0) l in
      let s = words-length st hop ns 1 0 in (
        pad-at w (words st hop) (3 * i) (omega arith) ∙ k.0 ∙ ap (word st hop) e,
        pad-at w (words st hop) (3 * i + 1) (omega arith) ∙ k.1,
        pad-at w (words st hop) (3 * i + 2) (omega arith) ∙ k.2 ∙ zero-add _,
        omega (arith, pad-length w (words st hop) (omega arith)),
      )

  -- the child base and the extending ones below are the child's place
  pub child-found : (i : ℕ) (n : Node) (c : ℕ) → i < length ns → get_or ns i (node 0 0) ≡ n → c < 16 → child st n c ≡ true
      → (child_at (bits_of ws i) (child_of ws i) c < length ns) ×
      (get_or ns (child_at (bits_of ws i) (child_of ws i) c) (node 0 0) ≡ node (n.depth + 1) (n.path * 16 + c))
  child-found i n c l e t o =
      let k = node-words i n l e in
      let under : ones (word st hop n / 2 ^ 16 % 2 ^ c) ≡ count (child st n) c = upper-count (word st hop n) (child st n) c
      (λ x lx. child-bit st hop n x (omega arith)) in
      rw (k.0, k.1, under) (child-place st ok.nine i n c l e t o)

  -- the hop base and the internal ones below are the hop's place
  pub hop-found : (i : ℕ) (n : Node) (b : ℕ) → i < length ns → get_or ns i (node 0 0) ≡ n → b < 15 → inner hop n b ≡ true
      → (base_of ws i + ones (bits_of ws i % 2 ^ b) < length hs) × (get_or hs (base_of ws i + ones (bits_of ws i % 2 ^ b)) 0 ≡ bit_hop hop n b)
  hop-found i n b l e t o =
      let k = node-words i n l e in
      let g = hop-place st hop i n b l e t o in
      let under : ones (word st hop n % 2 ^ b) ≡ count (inner hop n) b = rank-count (word st hop n) (inner hop n) b
      (λ x lx. inner-bit st hop n x (omega arith)) in
      rw (k.0, k.2, under) (omega (arith, g.0, pad-length h (hops st hop) space), pad-at h (hops st hop) _ g.0 ∙ g.1)

  node_of : (t m i p : ℕ) → t ≤ 4 → i < length ns → get_or ns i (node 0 0) ≡ node m p → NodeOf hop ws hs t m i p
  node_of t m i p four l e =
      let n = node m p in
      let k = node-words i n l e in
      record {
        here = k.3;
        clear = rw k.0 (clear-bit st hop n);
        holds = λ j u lj lu.
            let b : ℕ = 2 ^ j - 1 + u in
            let s = bit-hop hop n j u (omega arith) lu in
            let set : bit_at (bits_of ws i) b ≡ bit (inner hop n b) = rw k.0 (inner-bit st hop n b s.0) in
            record {
              off = λ z. let f = ltb-false 0 (bit_hop hop n b) (bit-off (inner hop n b) (sym set ∙ z)) in omega (arith, f, s.1);
              on = λ z.
                  let o : inner hop n b ≡ true = bit-on (inner hop n b) (sym set ∙ z) in
                  let g = hop-found i n b l e s.0 o in
                  (g.0, g.1 ∙ s.1, omega (arith, ltb-true 0 (bit_hop hop n b) o, s.1), ok.small _ _);
            };
      }

  none_below : (m p : ℕ) → st (m + 1) p ≡ false → NoneBelow hop m p
  none_below m p z l q lo hi e = go (hop l q) (ok.told (m + 1) l q (omega arith) lo hi)
    where
      go : (x : ℕ) → (0 < x → st (m + 1) (q / 2 ^ (l - 4 * (m + 1))) ≡ true) → x ≡ 0
      go zero f = refl
      go (suc x) f = absurd (true≢false (sym (f (omega arith)) ∙ rw e z))

  pub image_holds : (d m i p : ℕ) → i < length ns → get_or ns i (node 0 0) ≡ node m p → SubtreeHolds st hop ws hs d m i p
  unfolding SubtreeHolds
  image_holds zero m i p l e = node_of 1 m i p (omega arith) l e
  image_holds (suc d) m i p l e =
      let n = node m p in
      let k = node-words i n l e in (
        node_of 4 m i p (omega arith) l e,
        (λ c lc o.
            let g = child-found i n c l e lc o in
            (rw k.0 (child-bit st hop n c lc ∙ ap bit o), image_holds d (m + 1) _ (p * 16 + c) g.0 g.1)),
        (λ c lc z. (rw k.0 (child-bit st hop n c lc ∙ ap bit z), none_below m (p * 16 + c) z)),
      )
