-- What a build leaves is well formed: a node that stands has some route in it or below it, and so a bit set.
use mathlib.Core.Path.{◌≡◌, refl, sym, ◌∙◌, ap, subst}
use mathlib.Core.Logic.{◌⊎◌, inl, inr}
use mathlib.Core.Bool.{Bool, true, false, cond, not}
use mathlib.Core.List.{List, [], ◌∷◌, Memᴰ}
use Prim.Native.Nat.{ℕ, zero, suc, ◌+◌, ◌-◌, ◌*◌, ◌/◌, ◌%◌, ◌^◌, ◌≤◌, ◌<◌}
use native.Mathlib.Nat.{div-eq_of_lt}
use native.Mathlib.Omega.{arith}
use lib.Dec.{ltb}
use lib.Pow.{shr_le, pow-lt}
use lib.ListN.{length, get_or}
use borrow.Author.Tests.{lt-ltb, le-ltb, ltb-true, eq-eqb, ne_eqb}
use Rattle.bits.specs.Bit.{bit_at}
use Rattle.bits.specs.Count.{bit, count}
use Rattle.bits.proofs.Bools.{both, below?, untrue}
use Rattle.routes.specs.Route.{Good}
use Rattle.routes.specs.declared.Route.{Route}
use Rattle.routes.proofs.Goods.{good-fine}
use Rattle.standing.specs.Cells.{any, first}
use Rattle.tree_image.specs.Node.{bits_of, child_of, base_of, sound}
use Rattle.tree_image.specs.Parts.{before}
use Rattle.tree_image.specs.Image.{Node, node, inner_len, bit_hop, inner, child, set_bit, word, kids, hops_of, nodes, hops, image_by, image_of, through, node_stands, hop_for, node_need}
use Rattle.tree_image.proofs.Counts.{count-hit}
use Rattle.tree_image.proofs.Parts.{picked-length, gather-split}
use Rattle.tree_image.proofs.Nodes.{up_next, inner-bit, clear-bit, child-bit}
use Rattle.tree_image.proofs.Holds.{pad-length, pad-at, node-words, child-place, hop-place}
use Rattle.tree_image.proofs.Lies.{any-is, any-mem, pass-make, kid_of, kid_at, bit_of, bit-at, hop-of}
use Rattle.tree_image.proofs.Needs.{hops-need}
use Rattle.tree_image.proofs.Serves.{agree, words_after, hops_after}
use Rattle.tree_node.proofs.Marks.{word-bits}
use Rattle.tree_same.specs.Order.{ints, Order}
use Rattle.tree_same.proofs.Canonical.{ext-ones}
use Rattle.tree_same.proofs.Same.{hopping, fits}
use Rattle.tree_same.proofs.Holdings.{image-order, image-ints}
use Rattle.tree_formed.specs.WellFormed.{node_ok}
use Rattle.tree_formed.proofs.Meaning.{WellFormed, from_all}

-- a number with a bit set is not 0
pub not-zero : (w k : ℕ) → bit_at w k ≡ 1 → w ≡ 0 → ⊥
not-zero w k e z = let u : 0 / 2 ^ k % 2 ≡ 1 = rw z at e in omega (arith, shr_le 0 k)

-- the bits of 1
pub one-bits : (k : ℕ) → 0 < k → bit_at 1 k ≡ 0
one-bits k l = ap (λ (x : ℕ). x % 2) (div-eq_of_lt (pow-lt {i = 0} {j = k} l))

module _ (rs : List Route) (g : Good rs) where
  abbrev st : ℕ → ℕ → Bool
  st = node_stands rs

  abbrev hop : ℕ → ℕ → ℕ
  hop = hop_for rs

  -- a route in a node is one of its bits
  own-inner : (m p : ℕ) (r : Route) → Memᴰ r rs → through m p r ≡ true → r.len < 4 * (m + 1) → (bit_of m r < 15) ×
      (inner hop (node m p) (bit_of m r) ≡ true)
  unfolding bit_hop
  own-inner m p r k t l =
      let f = good-fine rs g r k in
      let b = bit-at m p r f.prefix.len_ok t l in
      let e : bit_hop hop (node m p) (bit_of m r) ≡ r.hop = hop-of _ _ rs r g k b.1 in
      (b.0, lt-ltb 0 (bit_hop hop (node m p) (bit_of m r)) (omega (arith, e, f.hop_one)))

  own-child : (m p : ℕ) (r : Route) → Memᴰ r rs → through m p r ≡ true → 4 * (m + 1) ≤ r.len → child st (node m p) (kid_of m r) ≡ true
  own-child m p r k t l = any-mem (through (m + 1) (p * 16 + kid_of m r)) rs r k (kid_at m p r (good-fine rs g r k).prefix.len_ok t l)

  -- a node that stands has a bit set
  pub word_some : (m p : ℕ) → st m p ≡ true → word st hop (node m p) ≡ 0 → ⊥
  word_some m p e z =
      let f = any-is (through m p) rs e in
      go f.0 f.1 f.2 (below? f.0.len (4 * (m + 1)))
    where
      go : (r : Route) → Memᴰ r rs → through m p r ≡ true → (r.len < 4 * (m + 1)) ⊎ (4 * (m + 1) ≤ r.len) → ⊥
      go r k t (inl l) = let o = own-inner m p r k t l in not-zero _ (bit_of m r) (inner-bit st hop (node m p) (bit_of m r) o.0 ∙ ap bit o.1) z
      go r k t (inr l) = not-zero _ (16 + kid_of m r) (child-bit st hop (node m p) (kid_of m r) (omega arith) ∙ ap bit (own-child m p r k t l)) z

  -- at depth 8 it is bit 0 alone
  deep-word : (p : ℕ) → st 8 p ≡ true → 1 ≡ word st hop (node 8 p)
  unfolding word set_bit bit_hop
  deep-word p e = word-bits 1 (set_bit st hop (node 8 p)) (omega arith) (λ b l. go b (below? b 15) (below? b 16))
    where
      own : inner hop (node 8 p) 0 ≡ true
      own =
          let f = any-is (through 8 p) rs e in
          let n = (good-fine rs g f.0 f.1).prefix.len_ok in
          let o = own-inner 8 p f.0 f.1 f.2 (omega arith) in
          let z : f.0.len - 32 ≡ 0 = omega arith in
          let b : bit_of 8 f.0 ≡ 0 = rw z (omega arith) in
          subst (λ (x : ℕ). inner hop (node 8 p) x ≡ true) b o.1

      none : (b : ℕ) → 0 < b → b < 15 → inner hop (node 8 p) b ≡ false
      none b l u = untrue (inner hop (node 8 p) b) (λ t. clash (ltb-true 0 _ t))
        where
          positive : 1 ≤ inner_len b
          positive = rw (le-ltb b 1 l) (two (ltb b 3) (ltb b 7))
            where
              two : (x y : Bool) → 1 ≤ cond x 1 (cond y 2 3)
              two true y = omega arith
              two false true = omega arith
              two false false = omega arith

          clash : 0 < hop (4 * 8 + inner_len b) (p * 2 ^ inner_len b + (b + 1 - 2 ^ inner_len b)) → ⊥
          clash h = omega (arith, ((hopping rs g).range _ _ h).0, positive)

      small : (b : ℕ) → b < 15 → (b ≡ 0) ⊎ (0 < b) → bit_at 1 b ≡ bit (inner hop (node 8 p) b)
      small b l (inl z) = rw z (sym (ap bit own))
      small b l (inr u) = one-bits b u ∙ sym (ap bit (none b u l))

      cases : (b : ℕ) → (b ≡ 0) ⊎ (0 < b)
      cases zero = inl refl
      cases (suc b) = inr (omega arith)

      go : (b : ℕ) → (b < 15) ⊎ (15 ≤ b) → (b < 16) ⊎ (16 ≤ b) → bit_at 1 b ≡ bit
          (cond (ltb b 15) (inner hop (node 8 p) b) (cond (ltb b 16) false (child st (node 8 p) (b - 16))))
      go b (inl l) v = rw (lt-ltb b 15 l) (small b l (cases b))
      go b (inr l) (inl v) = rw (le-ltb b 15 l, lt-ltb b 16 v) (one-bits b (omega arith))
      go b (inr l) (inr v) = rw (le-ltb b 15 l, le-ltb b 16 v, (agree rs g).nine (p * 16 + (b - 16))) (one-bits b (omega arith))

  module _ (w h : ℕ) (room : 3 * node_need rs ≤ w) (space : length rs ≤ h) where
    abbrev ws : List ℕ
    ws = (image_of rs w h).words

    abbrev hs : List ℕ
    hs = (image_of rs w h).hops

    abbrev at : ℕ → Node
    at x = get_or (nodes st) x (node 0 0)

    hops_fit : length (hops st hop) ≤ h
    hops_fit = omega (arith, hops-need rs g)

    its-words : (i : ℕ) (n : Node) → i < node_need rs → at i ≡ n → (bits_of ws i ≡ word st hop n) × (child_of ws i ≡ 1 + before (kids st) (nodes st) i)
        × (base_of ws i ≡ before (hops_of hop) (nodes st) i) × (i < length ws / 3)
    unfolding image_by
    its-words i n l e = node-words st hop (agree rs g) w h room hops_fit i n l e

    sound-at : (i : ℕ) (n : Node) → i < node_need rs → at i ≡ n → sound ws i ≡ true
    unfolding sound
    sound-at i n l e = let k = its-words i n l e in both (lt-ltb i (length ws / 3) k.3) (rw (k.0, clear-bit st hop n) refl)

    node_ok_lem : (d m i p : ℕ) → m + d ≡ 8 → i < node_need rs → at i ≡ node m p → st m p ≡ true → node_ok d ws i ≡ true
    unfolding node_ok kids
    node_ok_lem zero m i p s l e t =
        let k = its-words i (node m p) l e in
        let m8 : m ≡ 8 = omega arith in
        let q : word st hop (node m p) ≡ 1 = subst (λ (x : ℕ). word st hop (node x p) ≡ 1) (sym m8) (sym (deep-word p (rw m8 at t))) in
        both (sound-at i (node m p) l e) (eq-eqb _ 1 (k.0 ∙ q))
    node_ok_lem (suc d) m i p s l e t =
        let n = node m p in
        let k = its-words i n l e in
        both (sound-at i n l e)
        (both (ap not (ne_eqb (bits_of ws i) 0 (λ z. word_some m p t (sym k.0 ∙ z))))
        (from_all (node_ok d ws) _ _ (λ r u.
        let c = count-hit (child st n) 16 r (rw (k.0, ext-ones st hop n, picked-length) at u) in
        let f = child-place st (agree rs g).nine i n c.0 l e c.1 c.2 in
        let q : child_of ws i + r ≡ 1 + before (kids st) (nodes st) i + count (child st n) c.0 = omega (arith, k.1, c.3) in
        rw q (node_ok_lem d (m + 1) _ (p * 16 + c.0) (omega arith) f.0 f.1 c.2))))

    order : Order ws (node_need rs)
    unfolding image_by
    order = image-order st hop (fits rs g) w h room hops_fit

    all-hops : ints ws (node_need rs) ≡ length rs
    unfolding image_by
    all-hops = image-ints st hop (fits rs g) w h room hops_fit ∙ hops-need rs g

    hop-fine : (k : ℕ) → k < length rs → (1 ≤ get_or hs k 0) × (get_or hs k 0 ≤ 32767)
    unfolding image_by hops hops_of bit_hop
    hop-fine k l =
        let u : k < length (hops st hop) = omega (arith, hops-need rs g) in
        let s = gather-split (hops_of hop) (nodes st) (node 0 0) k u in
        let n = at s.0 in
        let c = count-hit (inner hop n) 15 s.1 (rw picked-length at s.3) in
        let e : before (hops_of hop) (nodes st) s.0 + count (inner hop n) c.0 ≡ k = omega (arith, s.4, c.3) in
        let v : get_or hs k 0 ≡ bit_hop hop n c.0 =
        pad-at h (hops st hop) k u ∙ ap (λ (x : ℕ). get_or (hops st hop) x 0) (sym e) ∙ (hop-place st hop s.0 n c.0 s.2 refl c.1 c.2).1 in
        rw v (ltb-true 0 _ c.2, (agree rs g).small _ _)

    module _ (few : length rs ≤ 4096) (root : (bits_of ws 0 ≡ 0) ⊎ (node_ok 8 ws 0 ≡ true)) where
      formed : length rs ≤ length hs → WellFormed ws hs (node_need rs)
      formed fit = record {
        order = order;
        root = root;
        room = omega (arith, all-hops);
        few = omega (arith, all-hops);
        hop = λ k l. hop-fine k (omega (arith, all-hops));
        words_after = λ j l. words_after rs w h j l;
        hops_after = λ j l. hops_after rs w h j g (omega (arith, all-hops));
      }

-- the root of no routes is bare, and that of some is a node like any other
root_ok : (rs : List Route) (g : Good rs) (w h : ℕ) → 3 * node_need rs ≤ w → length rs ≤ h → (bits_of (image_of rs w h).words 0 ≡ 0) ⊎
    (node_ok 8 (image_of rs w h).words 0 ≡ true)
unfolding any first word set_bit bit_hop
root_ok [] g w h room space =
    let up = up_next (node_stands []) 8 in
    inl ((its-words [] g w h room space 0 (node 0 0) (omega (arith, ap length up)) (ap (λ (x : List Node). get_or x 0 (node 0 0)) up)).0
    ∙ sym (word-bits 0 (set_bit (node_stands []) (hop_for []) (node 0 0)) (omega arith) (λ b l. none b (ltb b 15) (ltb b 16))))
  where
    none : (b : ℕ) (x y : Bool) → bit_at 0 b ≡ bit (cond x false (cond y false false))
    none b true y = omega (arith, shr_le 0 b)
    none b false true = omega (arith, shr_le 0 b)
    none b false false = omega (arith, shr_le 0 b)
root_ok (r ∷ rs) g w h room space =
    let up = up_next (node_stands (r ∷ rs)) 8 in
    let f = good-fine (r ∷ rs) g r (Memᴰ.head refl) in
    inr (node_ok_lem (r ∷ rs) g w h room space 8 0 0 0 refl (omega (arith, ap length up)) (ap (λ (x : List Node). get_or x 0 (node 0 0)) up)
    (any-mem (through 0 0) (r ∷ rs) r (Memᴰ.head refl) (pass-make 0 0 r (omega arith) (omega (arith, f.prefix.addr_ok)))))

pub image-formed : (rs : List Route) (w h : ℕ) → Good rs → length rs ≤ 4096 → 3 * node_need rs ≤ w → length rs ≤ h → WellFormed
    (image_of rs w h).words (image_of rs w h).hops (node_need rs)
unfolding image_by
image-formed rs w h g few room space =
    formed rs g w h room space few (root_ok rs g w h room space) (omega (arith, pad-length h (hops (node_stands rs) (hop_for rs)) (hops_fit rs g w h room space)))
