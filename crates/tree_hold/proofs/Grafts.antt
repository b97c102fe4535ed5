-- An empty child grafted: the arrays then hold the routes with one node more. No list of nodes is met: a path leads where it led, one
-- place further from the new node on.
use mathlib.Core.Path.{◌≡◌, refl, sym, ◌∙◌, ap, ap₂, subst}
use mathlib.Core.Logic.{◌⊎◌, inl, inr}
use mathlib.Core.Bool.{Bool, true, false, cond, ◌&&◌, ◌||◌, true≢false, or-true, or-false, and-false}
use mathlib.Core.List.{List}
use Prim.Native.Nat.{ℕ, zero, suc, ◌+◌, ◌-◌, ◌*◌, ◌/◌, ◌%◌, ◌^◌, ◌≤◌, ◌<◌}
use native.Mathlib.Omega.{arith}
use lib.Dec.{eqb, ltb}
use lib.Pow.{shr_le}
use lib.Pow.{high as high_part}
use lib.ListN.{get_or}
use lib.Count.{ones}
use borrow.Author.Tests.{lt-ltb, le-ltb, eq-eqb, ne_eqb, eqb-true, ltb-true}
use Rattle.bits.specs.Bit.{bit_at}
use Rattle.bits.specs.Count.{bit, count}
use Rattle.bits.proofs.Bools.{both, and_split, or_split, below?, equal?, untrue}
use Rattle.bits.proofs.Packed.{packed-bit}
use Rattle.tree_image.specs.Node.{bits_of, child_of, base_of, is_set, child_at}
use Rattle.tree_image.specs.Image.{Node, node, inner_len, bit_hop, inner, child, set_bit, word}
use Rattle.tree_image.specs.Done.{node_no}
use Rattle.tree_image.proofs.Counts.{count-mono, count_less}
use Rattle.tree_image.proofs.Nodes.{set-inner, set-child}
use Rattle.tree_image.proofs.Lies.{inner-cases}
use Rattle.tree_node.proofs.Marks.{word-bits}
use Rattle.tree_same.specs.Read.{reached, hop_place_at}
use Rattle.tree_same.specs.Order.{exts, ints, Order, stands_at}
use Rattle.tree_same.specs.Holding.{Holding}
use Rattle.tree_same.proofs.Back.{Shaped, bit-set-is}
use Rattle.tree_same.proofs.Holdings.{stands-found}
use Rattle.tree_formed.proofs.Held.{fewer-exts, exts-next, exts-mono}
use Rattle.tree_hold.specs.More.{also}
use Rattle.tree_hold.specs.Edits.{Grafted}
use Rattle.tree_hold.proofs.Holds.{word_fits}
use Rattle.tree_hold.proofs.GraftBits.{
  bit-same,
  bit-new,
  count-upto,
  count_past,
  rank-old,
  rank-new,
  all_old,
  exts-upto,
  exts-between,
  exts-later,
  low-at,
  ints-upto,
  ints-later,
}

-- one place further from y on
abbrev pub moved : ℕ → ℕ → ℕ
moved y i = cond (ltb i y) i (suc i)

pub moved-low : (y i : ℕ) → i < y → moved y i ≡ i
moved-low y i l = rw (lt-ltb i y l)

pub moved-high : (y i : ℕ) → y ≤ i → moved y i ≡ suc i
moved-high y i l = rw (le-ltb i y l)

module _ {ws ws' : List ℕ} {n x c y : ℕ} (o : Order ws n) (g : Grafted ws ws' n x c y) where
  abbrev w : ℕ
  w = bits_of ws x

  abbrev f : ℕ → Bool
  f i = is_set w (16 + i)

  par : x < n
  par = omega (arith, g.bits.after, g.bits.inside)

  -- ---- the place

  pub y-is : y ≡ 1 + exts ws x + count f c
  y-is = g.place ∙ ap₂ (λ (a b : ℕ). a + b) (o.child x par) (rank-old g.bits c)

  counts-le : count f c ≤ count f 16
  counts-le = let e : c + (16 - c) ≡ 16 = omega (arith, g.bits.small) in subst (λ (k : ℕ). count f c ≤ count f k) e (count-mono f c (16 - c))

  y-le : y ≤ 1 + exts ws (suc x)
  y-le = omega (arith, y-is, counts-le, exts-next ws x, all_old g.bits)

  -- ---- the bases are those of the fixed order

  -- a place of the new words is before the new node, the new node, or one that was moved up
  pub data Place (i : ℕ) : Type 0 where
    low : i ≤ x → Place i
    mid : x < i → i < y → Place i
    new : i ≡ y → Place i
    high : (k : ℕ) → i ≡ suc k → y ≤ k → Place i

  place_of : (i : ℕ) → Place i
  place_of i = go (below? x i) (below? i y) (below? y i)
    where
      up : (j : ℕ) → y < j → (k : ℕ) × (j ≡ suc k) × (y ≤ k)
      up zero l = absurd (omega arith)
      up (suc k) l = (k, refl, omega arith)

      go : (x < i) ⊎ (i ≤ x) → (i < y) ⊎ (y ≤ i) → (y < i) ⊎ (i ≤ y) → Place i
      go (inr a) b d = low a
      go (inl a) (inl b) d = mid a b
      go (inl a) (inr b) (inl d) = let k = up i d in high k.0 k.1 k.2
      go (inl a) (inr b) (inr d) = new (omega arith)

  pub order' : Order ws' (n + 1)
  order' = record {
    lent = g.lent;
    whole = let e : n + 1 ≡ suc n = omega arith in rw e (omega (arith, exts-later g.bits n g.bits.inside (omega arith), o.whole));
    fewest = λ i l. fewest i l (place_of i);
    child = λ i l. chained i l (place_of i);
    base = λ i l. based i l (place_of i);
  }
    where
      last : n ≤ 1 + exts ws n
      last = omega (arith, o.fewest (n - 1) (omega (arith, par)), exts-mono ws (n - 1) n (omega arith))

      here : (i : ℕ) → i ≤ n → i ≤ 1 + exts ws i
      here i l = at (below? i n)
        where
          at : (i < n) ⊎ (n ≤ i) → i ≤ 1 + exts ws i
          at (inl u) = omega (arith, o.fewest i u)
          at (inr u) = let e : i ≡ n = omega arith in rw e last

      fewest : (i : ℕ) → i < n + 1 → Place i → i < 1 + exts ws' i
      fewest i l (low a) = omega (arith, exts-upto g.bits i a, o.fewest i (omega (arith, par)))
      fewest i l (mid a b) = omega (arith, exts-between g.bits i a (omega arith), o.fewest i (omega (arith, g.bits.inside)))
      fewest i l (new e) = rw e (omega (arith, exts-between g.bits y g.bits.after (omega arith), here y g.bits.inside))
      fewest i l (high k e a) = rw e (omega (arith, exts-later g.bits k a (omega arith), o.fewest k (omega arith)))

      chained : (i : ℕ) → i < n + 1 → Place i → child_of ws' i ≡ 1 + exts ws' i
      chained i l (low a) = omega (arith, g.child_upto i a, exts-upto g.bits i a, o.child i (omega (arith, par)))
      chained i l (mid a b) = omega (arith, g.child_between i a b, exts-between g.bits i a (omega arith), o.child i (omega (arith, g.bits.inside)))
      chained i l (new e) = rw e (omega (arith, g.child_new, exts-between g.bits y g.bits.after (omega arith)))
      chained i l (high k e a) = rw e (omega (arith, g.child_above k a (omega arith), exts-later g.bits k a (omega arith), o.child k (omega arith)))

      below : (i : ℕ) → i < y → base_of ws' i ≡ ints ws' i
      below i l = g.base_below i l ∙ o.base i (omega (arith, g.bits.inside)) ∙ sym (ints-upto g.bits i (omega arith))

      based : (i : ℕ) → i < n + 1 → Place i → base_of ws' i ≡ ints ws' i
      based i l (low a) = below i (omega (arith, g.bits.after))
      based i l (mid a b) = below i b
      based i l (new e) = rw e (g.base_new ∙ sym (ints-upto g.bits y (omega arith)))
      based i l (high k e a) = rw e (g.base_above k a (omega arith) ∙ o.base k (omega arith) ∙ sym (ints-later g.bits k a (omega arith)))

  -- ---- where a path leads

  child-moved : (i d : ℕ) → i < n → d < 16 → is_set (bits_of ws i) (16 + d) ≡ true → child_at (bits_of ws' (moved y i)) (child_of ws' (moved y i)) d
      ≡ moved y (child_at (bits_of ws i) (child_of ws i) d)
  child-moved i d l u s = go (below? i x) (below? x i) (below? i y)
    where
      j : ℕ
      j = child_at (bits_of ws i) (child_of ws i) d

      below_next : child_at (bits_of ws i) (child_of ws i) d < 1 + exts ws (suc i)
      below_next = omega (arith, o.child i l, fewer-exts (bits_of ws i) d (g.bits.narrow i l) u s, exts-next ws i)

      from : 1 + exts ws i ≤ child_at (bits_of ws i) (child_of ws i) d
      from = omega (arith, o.child i l)

      at-parent : i ≡ x → (d < c) ⊎ (c ≤ d) → child_at (bits_of ws' (moved y i)) (child_of ws' (moved y i)) d ≡ moved y (child_at (bits_of ws i) (child_of ws i) d)
      at-parent e (inl v) =
          let t : f d ≡ true = rw e at s in
          let q : child_at w (child_of ws x) d < y = omega (arith, y-is, o.child x (par), rank-old g.bits d, count_less f c d v t) in
          rw (e, moved-low y x g.bits.after, moved-low y (child_at w (child_of ws x) d) q)
          (omega (arith, g.child_upto x (omega arith), rank-new g.bits d, rank-old g.bits d, count-upto g.bits d (omega arith)))
      at-parent e (inr v) =
          let t : f d ≡ true = rw e at s in
          let z : c < d = apart (equal? c d) t in
          let q : y ≤ child_at w (child_of ws x) d = omega (arith, y-is, o.child x (par), rank-old g.bits d, more z) in
          rw (e, moved-low y x g.bits.after, moved-high y (child_at w (child_of ws x) d) q)
          (omega (arith, g.child_upto x (omega arith), rank-new g.bits d, rank-old g.bits d, count_past g.bits d z))
        where
          apart : (c ≡ d) ⊎ (c ≡ d → ⊥) → f d ≡ true → c < d
          apart (inl q) t = absurd (true≢false (sym (rw (← q) at t) ∙ g.bits.free))
          apart (inr q) t = omega arith

          more : c < d → count f c ≤ count f d
          more z = let k : c + (d - c) ≡ d = omega arith in subst (λ (a : ℕ). count f c ≤ count f a) k (count-mono f c (d - c))

      go : (i < x) ⊎ (x ≤ i) → (x < i) ⊎ (i ≤ x) → (i < y) ⊎ (y ≤ i) → child_at (bits_of ws' (moved y i)) (child_of ws' (moved y i)) d ≡ moved y
          (child_at (bits_of ws i) (child_of ws i) d)
      go (inl a) b e =
          let q : child_at (bits_of ws i) (child_of ws i) d < y = omega (arith, below_next, exts-mono ws (suc i) x a, y-is) in
          rw (
            moved-low y i (omega (arith, g.bits.after)),
            moved-low y (child_at (bits_of ws i) (child_of ws i) d) q,
            g.bits.below i
                (omega (arith, g.bits.after)) (λ (h : i ≡ x). omega arith),
            g.child_upto i (omega arith),
          ) refl
      go (inr a) (inr b) e = at-parent (omega arith) (below? d c)
      go (inr a) (inl b) (inl e) =
          let q : y ≤ child_at (bits_of ws i) (child_of ws i) d = omega (arith, from, exts-mono ws (suc x) i b, y-le) in
          rw (
            moved-low y i e,
            moved-high y (child_at (bits_of ws i) (child_of ws i) d) q,
            g.bits.below i e
                (λ (h : i ≡ x). omega arith),
            g.child_between i b e,
          ) (omega arith)
      go (inr a) (inl b) (inr e) =
          let q : y ≤ child_at (bits_of ws i) (child_of ws i) d = omega (arith, from, exts-mono ws (suc x) i b, y-le) in
          rw (moved-high y i e, moved-high y (child_at (bits_of ws i) (child_of ws i) d) q, g.bits.above i e l, g.child_above i e l) (omega arith)

-- ---- the arrays after it

module _ {st : ℕ → ℕ → Bool} {hop : ℕ → ℕ → ℕ} {ws ws' hs : List ℕ} {n x c y : ℕ} (m p : ℕ) (fits : Shaped st hop) (h : Holding st hop ws hs n)
    (g : Grafted ws ws' n x c y)
    (stood : stands_at st m p ≡ true) (at : x ≡ reached ws m p) (deep : m < 8) (absent : st (suc m) (p * 16 + c) ≡ false) where
  abbrev st' : ℕ → ℕ → Bool
  st' = also st (suc m) (p * 16 + c)

  abbrev ord : Order ws n
  ord = h.order

  -- a node stands now if it stood, or is the new one
  stands-now : (a b : ℕ) → stands_at st' a b ≡ true → (stands_at st a b ≡ true) ⊎ ((a ≡ suc m) × (b ≡ p * 16 + c))
  unfolding stands_at also
  stands-now zero b e = inl e
  stands-now (suc a) b e = go (or_split (st (suc a) b) _ e)
    where
      go : (st (suc a) b ≡ true) ⊎ ((eqb (suc a) (suc m) && eqb b (p * 16 + c)) ≡ true) → (st (suc a) b ≡ true) ⊎ ((suc a ≡ suc m) × (b ≡ p * 16 + c))
      go (inl t) = inl t
      go (inr t) = let s = and_split (eqb (suc a) (suc m)) (eqb b (p * 16 + c)) t in inr (eqb-true _ _ s.0, eqb-true _ _ s.1)

  -- the bit of a child that stands is set
  child-set : (a b d : ℕ) → stands_at st a b ≡ true → d < 16 → is_set (bits_of ws (reached ws a b)) (16 + d) ≡ st (suc a) (b * 16 + d)
  unfolding word
  child-set a b d e l =
      let q : a + 1 ≡ suc a = omega arith in
      let k : bit_at (bits_of ws (reached ws a b)) (16 + d) ≡ bit (st (suc a) (b * 16 + d)) =
      rw (h.right a b e) (packed-bit (set_bit st hop (node a b)) 32 (16 + d) (omega arith) ∙ ap bit
      (set-child st hop (node a b) d ∙ ap (λ (z : ℕ). st z (b * 16 + d)) q)) in
      bit-set-is _ (16 + d) _ k

  -- every path leads one place further from y on
  pub leads-moved : (a b : ℕ) → stands_at st a b ≡ true → reached ws' a b ≡ moved y (reached ws a b)
  unfolding reached stands_at
  leads-moved zero b e = sym (moved-low y 0 (omega (arith, g.bits.after)))
  leads-moved (suc a) b e =
      let up = fits.up a b e in
      let i = stands-found st hop ws hs n fits h a (b / 16) up in
      let q : b / 16 * 16 + b % 16 ≡ b = omega arith in
      let s : is_set (bits_of ws (reached ws a (b / 16))) (16 + b % 16) ≡ true = child-set a (b / 16) (b % 16) up (omega arith) ∙ ap (st (suc a)) q ∙ e in
      rw (leads-moved a (b / 16) up) (child-moved ord g (reached ws a (b / 16)) (b % 16) i.0 (omega arith) s)

  pub new-at : reached ws' (suc m) (p * 16 + c) ≡ y
  unfolding reached
  new-at =
      let k = g.bits.small in
      let u : (p * 16 + c) / 16 ≡ p = omega arith in
      let v : (p * 16 + c) % 16 ≡ c = omega arith in
      let i : reached ws' m p ≡ x = leads-moved m p stood ∙ ap (moved y) (sym at) ∙ moved-low y x g.bits.after in
      rw (u, v, i)
      (omega (arith, y-is ord g, g.child_upto x (omega arith), ord.child x (par ord g), rank-new g.bits c, count-upto g.bits c (omega arith)))

  -- ---- the words

  bits-of : (a b k : ℕ) → k < 32 → bit_at (word st hop (node a b)) k ≡ bit (set_bit st hop (node a b) k)
  unfolding word
  bits-of a b k l = packed-bit (set_bit st hop (node a b)) 32 k l

  -- a child by its bit
  child-now : (a b d : ℕ) → child st' (node a b) d ≡ (child st (node a b) d || (eqb (a + 1) (suc m) && eqb (b * 16 + d) (p * 16 + c)))
  unfolding also
  child-now a b d = refl

  -- the bits of a node by its kinds of bits
  by_kind : (a b v : ℕ) → v < 2 ^ 32 → ((k : ℕ) → k < 15 → bit_at v k ≡ bit (inner hop (node a b) k)) → bit_at v 15 ≡ 0 →
      ((d : ℕ) → d < 16 → bit_at v (16 + d) ≡ bit (child st' (node a b) d))
      → v ≡ word st' hop (node a b)
  unfolding word set_bit
  by_kind a b v l in-bits clear out-bits = word-bits v (set_bit st' hop (node a b)) l (λ k u. go k u (below? k 15) (below? k 16))
    where
      go : (k : ℕ) → k < 32 → (k < 15) ⊎ (15 ≤ k) → (k < 16) ⊎ (16 ≤ k) → bit_at v k ≡ bit (set_bit st' hop (node a b) k)
      go k u (inl r) s = in-bits k r ∙ ap bit (sym (set-inner st' hop (node a b) k r))
      go k u (inr r) (inl s) = let e : k ≡ 15 = omega arith in rw e clear
      go k u (inr r) (inr s) =
          let e : 16 + (k - 16) ≡ k = omega arith in
          subst (λ (z : ℕ). bit_at v z ≡ bit (set_bit st' hop (node a b) z)) e
          (out-bits (k - 16) (omega arith) ∙ ap bit (sym (set-child st' hop (node a b) (k - 16))))

  old-inner : (a b k : ℕ) → k < 15 → bit_at (word st hop (node a b)) k ≡ bit (inner hop (node a b) k)
  old-inner a b k l = bits-of a b k (omega arith) ∙ ap bit (set-inner st hop (node a b) k l)

  old-child : (a b d : ℕ) → d < 16 → bit_at (word st hop (node a b)) (16 + d) ≡ bit (child st (node a b) d)
  old-child a b d l = bits-of a b (16 + d) (omega arith) ∙ ap bit (set-child st hop (node a b) d)

  old-clear : (a b : ℕ) → bit_at (word st hop (node a b)) 15 ≡ 0
  unfolding set_bit
  old-clear a b = bits-of a b 15 (omega arith)

  -- any node but the parent
  other_word : (a b : ℕ) → ((a ≡ m) × (b ≡ p) → ⊥) → word st hop (node a b) ≡ word st' hop (node a b)
  other_word a b n = by_kind a b _ (word_fits st hop (node a b)) (old-inner a b) (old-clear a b)
      (λ d l. old-child a b d l ∙ ap bit (sym (child-now a b d ∙ ap (λ (z : Bool). child st (node a b) d || z) (not_new d l) ∙ or-false
      (child st (node a b) d))))
    where
      not_new : (d : ℕ) → d < 16 → (eqb (a + 1) (suc m) && eqb (b * 16 + d) (p * 16 + c)) ≡ false
      not_new d l =
          untrue (eqb (a + 1) (suc m) && eqb (b * 16 + d) (p * 16 + c))
          (λ t.
          let s = and_split (eqb (a + 1) (suc m)) (eqb (b * 16 + d) (p * 16 + c)) t in
          let u = eqb-true (a + 1) (suc m) s.0 in
          let v = eqb-true (b * 16 + d) (p * 16 + c) s.1 in
          let k = g.bits.small in
          n (omega arith, omega arith))

  parent-word : bits_of ws' x ≡ word st' hop (node m p)
  parent-word =
      by_kind m p (bits_of ws' x) g.bits.parent.fits
      (λ k l. bit-same g.bits k (λ (e : k ≡ 16 + c). omega arith) ∙ ap (λ (z : ℕ). bit_at z k) old ∙ old-inner m p k l)
      (bit-same g.bits 15 (λ (e : 15 ≡ 16 + c). omega arith) ∙ ap (λ (z : ℕ). bit_at z 15) old ∙ old-clear m p)
      (λ d l. go d l (equal? d c))
    where
      old : bits_of ws x ≡ word st hop (node m p)
      old = ap (bits_of ws) at ∙ h.right m p stood

      go : (d : ℕ) → d < 16 → (d ≡ c) ⊎ (d ≡ c → ⊥) → bit_at (bits_of ws' x) (16 + d) ≡ bit (child st' (node m p) d)
      go d l (inl e) =
          let t : (eqb (m + 1) (suc m) && eqb (p * 16 + d) (p * 16 + c)) ≡ true = both (eq-eqb (m + 1) (suc m) (omega arith))
          (eq-eqb (p * 16 + d) (p * 16 + c) (omega arith)) in
          rw e (bit-new g.bits) ∙ ap bit (sym (child-now m p d ∙ ap (λ (z : Bool). child st (node m p) d || z) t ∙ or-true (child st (node m p) d)))
      go d l (inr e) =
          let t : (eqb (m + 1) (suc m) && eqb (p * 16 + d) (p * 16 + c)) ≡ false = ap (λ (z : Bool). eqb (m + 1) (suc m) && z)
          (ne_eqb (p * 16 + d) (p * 16 + c) (λ q. e (omega arith))) ∙ and-false (eqb (m + 1) (suc m)) in
          bit-same g.bits (16 + d) (λ q. e (omega arith)) ∙ ap (λ (z : ℕ). bit_at z (16 + d)) old ∙ old-child m p d l
          ∙ ap bit (sym (child-now m p d ∙ ap (λ (z : Bool). child st (node m p) d || z) t ∙ or-false (child st (node m p) d)))

  -- no route lies in the new node or below it
  no_hop : (k : ℕ) → k < 15 → inner hop (node (suc m) (p * 16 + c)) k ≡ false
  unfolding bit_hop
  no_hop k l =
      untrue (inner hop (node (suc m) (p * 16 + c)) k)
      (λ t.
      let j = inner-cases k l in
      let q : ℕ = (p * 16 + c) * 2 ^ inner_len k + (k + 1 - 2 ^ inner_len k) in
      let z : 4 * suc m + inner_len k - 4 * suc m ≡ inner_len k = omega arith in
      let u = ltb-true 0 _ t in
      let r = (fits.hopping.range _ _ u).0 in
      let e = fits.agree.told (suc m) (4 * suc m + inner_len k) ((p * 16 + c) * 2 ^ inner_len k + (k + 1 - 2 ^ inner_len k)) (omega arith) (omega arith) r u in
      let d : ((p * 16 + c) * 2 ^ inner_len k + (k + 1 - 2 ^ inner_len k)) / 2 ^ (4 * suc m + inner_len k - 4 * suc m) ≡ p * 16 + c =
      ap (λ (i : ℕ). ((p * 16 + c) * 2 ^ inner_len k + (k + 1 - 2 ^ inner_len k)) / 2 ^ i) z ∙ high_part (p * 16 + c) (inner_len k) j.2 in
      true≢false (sym e ∙ ap (st (suc m)) d ∙ absent))

  no-child : (d : ℕ) → d < 16 → child st' (node (suc m) (p * 16 + c)) d ≡ false
  unfolding stands_at
  no-child d l =
      let s : (eqb (suc m + 1) (suc m) && eqb ((p * 16 + c) * 16 + d) (p * 16 + c)) ≡ false = ap
      (λ (z : Bool). z && eqb ((p * 16 + c) * 16 + d) (p * 16 + c)) (ne_eqb (suc m + 1) (suc m) (λ e. omega arith)) in
      child-now (suc m) (p * 16 + c) d ∙ ap (λ (z : Bool). child st (node (suc m) (p * 16 + c)) d || z) s ∙ or-false
      (child st (node (suc m) (p * 16 + c)) d) ∙ none
    where
      none : child st (node (suc m) (p * 16 + c)) d ≡ false
      none =
          untrue (child st (node (suc m) (p * 16 + c)) d)
          (λ t.
          let a : suc m + 1 ≡ suc (suc m) = omega arith in
          let u : ((p * 16 + c) * 16 + d) / 16 ≡ p * 16 + c = omega arith in
          let e = fits.up (suc m) ((p * 16 + c) * 16 + d) (rw a at t) in
          true≢false (sym (rw u at e) ∙ absent))

  new_word : 0 ≡ word st' hop (node (suc m) (p * 16 + c))
  new_word =
      by_kind (suc m) (p * 16 + c) 0 (omega arith)
      (λ k l. zero_bit k ∙ ap bit (sym (no_hop k l))) (zero_bit 15) (λ d l. zero_bit (16 + d) ∙ ap bit (sym (no-child d l)))
    where
      zero_bit : (k : ℕ) → bit_at 0 k ≡ 0
      zero_bit k = omega (arith, shr_le 0 k)

  -- ---- the arrays hold the routes with the new node

  -- only the parent is at x
  parent-only : (a b : ℕ) → stands_at st a b ≡ true → reached ws a b ≡ x → (a ≡ m) × (b ≡ p)
  parent-only a b e i =
      let u = (stands-found st hop ws hs n fits h a b e).1 in
      let v = (stands-found st hop ws hs n fits h m p stood).1 in
      let q : node a b ≡ node m p = sym u ∙ ap (λ (k : ℕ). node_no st k) (i ∙ at) ∙ v in
      (ap (λ (k : Node). k.depth) q, ap (λ (k : Node). k.path) q)

  right' : (a b : ℕ) → stands_at st' a b ≡ true → bits_of ws' (reached ws' a b) ≡ word st' hop (node a b)
  right' a b e = go (stands-now a b e)
    where
      old : stands_at st a b ≡ true → (reached ws a b ≡ x) ⊎ (reached ws a b ≡ x → ⊥) → (reached ws a b < y) ⊎ (y ≤ reached ws a b) → bits_of ws'
          (moved y (reached ws a b)) ≡ word st' hop (node a b)
      old t (inl i) v =
          let q = parent-only a b t i in
          rw (i, moved-low y x g.bits.after) (parent-word ∙ ap₂ (λ (d k : ℕ). word st' hop (node d k)) (sym q.0) (sym q.1))
      old t (inr i) (inl v) =
          rw (moved-low y (reached ws a b) v)
          (g.bits.below (reached ws a b) v i ∙ h.right a b t ∙ other_word a b (λ q. i (ap₂ (reached ws) q.0 q.1 ∙ sym at)))
      old t (inr i) (inr v) =
          rw (moved-high y (reached ws a b) v)
          (g.bits.above (reached ws a b) v (stands-found st hop ws hs n fits h a b t).0 ∙ h.right a b t ∙ other_word a b
          (λ q. i (ap₂ (reached ws) q.0 q.1 ∙ sym at)))

      go : (stands_at st a b ≡ true) ⊎ ((a ≡ suc m) × (b ≡ p * 16 + c)) → bits_of ws' (reached ws' a b) ≡ word st' hop (node a b)
      go (inl t) = rw (leads-moved a b t) (old t (equal? (reached ws a b) x) (below? (reached ws a b) y))
      go (inr t) = rw (t.0, t.1, new-at) (g.bits.new ∙ new_word)

  put' : (a b k : ℕ) → stands_at st' a b ≡ true → k < 15 → inner hop (node a b) k ≡ true
      → get_or hs (hop_place_at ws' (reached ws' a b) k) 0 ≡ bit_hop hop (node a b) k
  put' a b k e l s = go (stands-now a b e)
    where
      same : stands_at st a b ≡ true → (reached ws a b < y) ⊎ (y ≤ reached ws a b)
          → base_of ws' (moved y (reached ws a b)) + ones (bits_of ws' (moved y (reached ws a b)) % 2 ^ k) ≡ hop_place_at ws (reached ws a b) k
      same t (inl v) = rw (moved-low y (reached ws a b) v)
          (omega (arith, g.base_below (reached ws a b) v, low-at g.bits (reached ws a b) v k (omega arith)))
      same t (inr v) =
          let i = (stands-found st hop ws hs n fits h a b t).0 in
          rw (moved-high y (reached ws a b) v, g.base_above (reached ws a b) v i, g.bits.above (reached ws a b) v i) refl

      go : (stands_at st a b ≡ true) ⊎ ((a ≡ suc m) × (b ≡ p * 16 + c)) → get_or hs (hop_place_at ws' (reached ws' a b) k) 0 ≡ bit_hop hop (node a b) k
      go (inl t) = rw (leads-moved a b t, same t (below? (reached ws a b) y)) (h.put a b k t l s)
      go (inr t) = absurd (true≢false (sym s ∙ ap₂ (λ (d i : ℕ). inner hop (node d i) k) t.0 t.1 ∙ no_hop k l))

  pub all-ints : ints ws' (n + 1) ≡ ints ws n
  all-ints = let e : n + 1 ≡ suc n = omega arith in rw e (ints-later g.bits n g.bits.inside (omega arith))

  pub graft-holds : Holding st' hop ws' hs (n + 1)
  graft-holds = record {
    order = order' ord g;
    right = right';
    put = put';
    room = omega (arith, all-ints, h.room);
    rest = g.rest;
    blank = λ j l. h.blank j (omega (arith, all-ints));
  }
