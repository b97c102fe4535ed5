-- A well-formed image holds the routes that are read out of it, and so is their image: a path that leads to a node leads on to a route, so
-- the nodes that paths lead to are those that stand.
use mathlib.Core.Path.{◌≡◌, refl, sym, ◌∙◌, ap, subst}
use mathlib.Core.Logic.{◌⊎◌, inl, inr}
use mathlib.Core.Bool.{Bool, true, false, cond, not, ◌&&◌, true≢false}
use mathlib.Core.List.{List}
use Prim.Native.Nat.{ℕ, zero, suc, ◌+◌, ◌-◌, ◌*◌, ◌/◌, ◌%◌, ◌^◌, ◌≤◌, ◌<◌}
use native.Mathlib.Nat.{mod-lt, add-zero, mul-le-mul_right, pow-suc, add-mul, one-mul}
use native.Mathlib.Omega.{arith}
use lib.Dec.{eqb, ltb, leb}
use lib.Pow.{pow_pos, pow-add, shr-shr, shr_mod, high, low}
use lib.ListN.{length, get_or}
use lib.Count.{ones}
use borrow.Author.Tests.{lt-ltb, ltb-true, leb-true, le-leb, lt-leb, eqb-true, eq-eqb}
use Rattle.bits.specs.Bit.{bit_at}
use Rattle.bits.specs.Slot.{slot}
use Rattle.bits.specs.Count.{bit, count}
use Rattle.bits.proofs.Slots.{slot-up, half_pow}
use Rattle.bits.proofs.Bools.{decided, both, and_split, below?, untrue, same}
use Rattle.routes.specs.Route.{Good}
use Rattle.routes.specs.declared.Route.{Route}
use Rattle.routes.proofs.Goods.{good-fine}
use Rattle.tree_image.specs.Node.{bits_of, child_of, base_of, is_set, sound, child_at}
use Rattle.tree_image.specs.Image.{node, inner_len, bit_hop, inner, child, set_bit, word, image_of, through, node_stands, hop_for, node_need}
use Rattle.tree_image.proofs.Counts.{count_less}
use Rattle.bits.proofs.Packed.{rank-count, upper-count}
use Rattle.tree_image.proofs.Needs.{hops-need}
use Rattle.tree_image.proofs.Nodes.{set-inner, set-child}
use Rattle.tree_image.proofs.Lies.{any-is, pass-parts, hop-of, inner-cases, inner-len}
use Rattle.tree_image.proofs.Serves.{agree}
use Rattle.tree_node.proofs.Marks.{word-bits}
use Rattle.tree_same.specs.Read.{reached, leads, hop_at, path_of, bit_for, read_out}
use Rattle.tree_same.specs.Order.{stands_at, exts, ints}
use Rattle.tree_same.specs.Holding.{Holding}
use Rattle.tree_same.specs.Listed.{routes_held}
use Rattle.tree_same.proofs.Lists.{Hopping, listed-good, listed-hop}
use Rattle.tree_same.proofs.Back.{parts-of}
use Rattle.tree_same.proofs.Holdings.{nodes-are, hops-are, holds-image}
use Rattle.tree_same.proofs.Same.{hopping}
use Rattle.tree_formed.specs.WellFormed.{all_from, node_ok}
use Rattle.tree_formed.proofs.Meaning.{WellFormed, not-true, all-from}
use Rattle.tree_formed.proofs.Builds.{not-zero, one-bits}

-- a bit is its test
pub bit-of : (w k : ℕ) → bit_at w k ≡ bit (is_set w k)
bit-of w k = go (bit_at w k) (omega arith)
  where
    go : (x : ℕ) → x < 2 → x ≡ bit (eqb x 1)
    go zero l = refl
    go (suc zero) l = refl
    go (suc (suc x)) l = absurd (omega arith)

-- the ones below a set bit are fewer than those up to a bit after it
pub fewer-ints : (w b : ℕ) → b < 15 → is_set w b ≡ true → ones (w % 2 ^ b) < ones (w % 2 ^ 15)
fewer-ints w b l t =
    rw (rank-count w (is_set w) b (λ i u. bit-of w i), rank-count w (is_set w) 15 (λ i u. bit-of w i)) (count_less (is_set w) 15 b l t)

pub fewer-exts : (w c : ℕ) → w < 2 ^ 32 → c < 16 → is_set w (16 + c) ≡ true → ones (w / 2 ^ 16 % 2 ^ c) < ones (w / 2 ^ 16)
fewer-exts w c fit l t =
    let f : ℕ → Bool = λ i. is_set w (16 + i) in
    let e : ones (w / 2 ^ 16) ≡ count (λ i. is_set w (16 + i)) 16 = ap ones (sym (shr_mod {n = w} 16 16 fit)) ∙ upper-count w
    (λ i. is_set w (16 + i)) 16 (λ i u. bit-of w (16 + i)) in
    rw (upper-count w (λ i. is_set w (16 + i)) c (λ i u. bit-of w (16 + i)), e) (count_less (λ i. is_set w (16 + i)) 16 c l t)

step-mono : (f : ℕ → ℕ) → ((i : ℕ) → f i ≤ f (suc i)) → (k i : ℕ) → f i ≤ f (i + k)
step-mono f h zero i = rw add-zero (omega arith)
step-mono f h (suc k) i = let e : i + suc k ≡ suc (i + k) = omega arith in rw e (omega (arith, step-mono f h k i, h (i + k)))

pub exts-next : (ws : List ℕ) (i : ℕ) → exts ws (suc i) ≡ exts ws i + ones (bits_of ws i / 2 ^ 16)
unfolding exts
exts-next ws i = refl

pub ints-next : (ws : List ℕ) (i : ℕ) → ints ws (suc i) ≡ ints ws i + ones (bits_of ws i % 2 ^ 15)
unfolding ints
ints-next ws i = refl

pub exts-mono : (ws : List ℕ) (i n : ℕ) → i ≤ n → exts ws i ≤ exts ws n
exts-mono ws i n l = let e : i + (n - i) ≡ n = omega arith in subst (λ (x : ℕ). exts ws i ≤ exts ws x) e
    (step-mono (exts ws) (λ j. omega (arith, exts-next ws j)) (n - i) i)

pub ints-mono : (ws : List ℕ) (i n : ℕ) → i ≤ n → ints ws i ≤ ints ws n
ints-mono ws i n l = let e : i + (n - i) ≡ n = omega arith in subst (λ (x : ℕ). ints ws i ≤ ints ws x) e
    (step-mono (ints ws) (λ j. omega (arith, ints-next ws j)) (n - i) i)

-- the last four bits of a path
leads-next : (ws : List ℕ) (m p c : ℕ) → c < 16 → leads ws m p ≡ true → is_set (bits_of ws (reached ws m p)) (16 + c) ≡ true
    → (leads ws (suc m) (p * 16 + c) ≡ true) × (reached ws (suc m) (p * 16 + c) ≡ child_at (bits_of ws (reached ws m p)) (child_of ws (reached ws m p)) c)
unfolding leads reached
leads-next ws m p c l a b =
    let u : (p * 16 + c) / 16 ≡ p = omega arith in
    let v : (p * 16 + c) % 16 ≡ c = omega arith in
    rw (u, v) (both a b, refl)

leads-last : (ws : List ℕ) (m p c : ℕ) → c < 16 → leads ws (suc m) (p * 16 + c) ≡ true → is_set (bits_of ws (reached ws m p)) (16 + c) ≡ true
unfolding leads
leads-last ws m p c l e =
    let u : (p * 16 + c) / 16 ≡ p = omega arith in
    let v : (p * 16 + c) % 16 ≡ c = omega arith in
    (and_split (leads ws m p) (is_set (bits_of ws (reached ws m p)) (16 + c)) (rw (u, v) at e)).1

-- what leads on leads there
leads-up : (ws : List ℕ) (k m p : ℕ) → leads ws (m + k) p ≡ true → leads ws m (p / 2 ^ (4 * k)) ≡ true
unfolding leads
leads-up ws zero m p e = let u : p / 1 ≡ p = omega arith in rw (u, ← add-zero m) e
leads-up ws (suc k) m p e =
    let q : m + suc k ≡ suc (m + k) = omega arith in
    let t : leads ws (suc (m + k)) p ≡ true = subst (λ (x : ℕ). leads ws x p ≡ true) q e in
    let s = and_split (leads ws (m + k) (p / 16)) (is_set (bits_of ws (reached ws (m + k) (p / 16))) (16 + p % 16)) t in
    let z : 4 + 4 * k ≡ 4 * suc k = omega arith in
    subst (λ (x : ℕ). leads ws m x ≡ true) (shr-shr p 4 (4 * k) ∙ ap (λ (x : ℕ). p / 2 ^ x) z) (leads-up ws k m (p / 16) s.0)

leads-small : (ws : List ℕ) (m p : ℕ) → leads ws m p ≡ true → p < 2 ^ (4 * m)
unfolding leads
leads-small ws zero p e = omega (arith, eqb-true p 0 e)
leads-small ws (suc m) p e =
    let s = and_split (leads ws m (p / 16)) (is_set (bits_of ws (reached ws m (p / 16))) (16 + p % 16)) e in
    let z : 4 * suc m ≡ 4 * m + 4 = omega arith in
    let u : 2 ^ (4 * suc m) ≡ 2 ^ (4 * m) * 16 = ap (λ (x : ℕ). 2 ^ x) z ∙ pow-add 2 (4 * m) 4 in
    rw u (omega (arith, leads-small ws m (p / 16) s.0))

clear-sound : (ws : List ℕ) (i : ℕ) → sound ws i ≡ true → is_set (bits_of ws i) 15 ≡ false
unfolding sound
clear-sound ws i e = not-true _ (and_split (ltb i (length ws / 3)) (not (is_set (bits_of ws i) 15)) e).1

node-sound : (e : ℕ) (ws : List ℕ) (i : ℕ) → node_ok e ws i ≡ true → sound ws i ≡ true
unfolding node_ok
node-sound zero ws i k = (and_split (sound ws i) _ k).0
node-sound (suc e) ws i k = (and_split (sound ws i) _ k).0

-- a number that is not 0 has a bit set
some-bit : (n w : ℕ) → w < 2 ^ n → (w ≡ 0 → ⊥) → (k : ℕ) × (k < n) × (is_set w k ≡ true)
some-bit zero w l z = absurd (z (omega arith))
some-bit (suc n) w l z = go (below? 0 (w % 2)) (λ u v. some-bit n (w / 2) u v)
  where
    go : (0 < w % 2) ⊎ (w % 2 ≤ 0) → (w / 2 < 2 ^ n → (w / 2 ≡ 0 → ⊥) → (k : ℕ) × (k < n) × (is_set (w / 2) k ≡ true)) → (k : ℕ) × (k < suc n) ×
        (is_set w k ≡ true)
    go (inl u) ih = (0, omega arith, eq-eqb (w / 1 % 2) 1 (omega arith))
    go (inr u) ih =
        let r = ih (omega (arith, pow-suc 2 n)) (λ e. z (omega arith)) in
        (suc r.0, omega (arith, r.1), ap (λ (x : ℕ). eqb (x % 2) 1) (sym (half_pow w r.0)) ∙ r.2)

module _ (ws hs : List ℕ) (n : ℕ) (ok : WellFormed ws hs n) (narrow : (j : ℕ) → get_or ws j 0 < 2 ^ 32) where
  some : 0 < n
  some = omega (arith, ok.order.whole)

  inside : (m p : ℕ) → leads ws m p ≡ true → reached ws m p < n
  unfolding leads reached
  inside zero p e = some
  inside (suc m) p e =
      let y : ℕ = reached ws m (p / 16) in
      let s = and_split (leads ws m (p / 16)) (is_set (bits_of ws y) (16 + p % 16)) e in
      let l = inside m (p / 16) s.0 in
      omega (
        arith,
        ok.order.child y l,
        fewer-exts (bits_of ws y) (p % 16) (narrow (3 * y)) (omega arith) s.1,
        exts-next ws y,
        exts-mono ws (suc y) n l,
        ok.order.whole,
      )

  -- a child of a well-formed node is well formed
  child-ok : (y c e : ℕ) → c < 16 → (bits_of ws y ≡ 0) ⊎ (node_ok (suc e) ws y ≡ true) → is_set (bits_of ws y) (16 + c) ≡ true → node_ok e ws
      (child_at (bits_of ws y) (child_of ws y) c) ≡ true
  unfolding node_ok
  child-ok y c e l (inl z) b = absurd (not-zero (bits_of ws y) (16 + c) (eqb-true _ 1 b) z)
  child-ok y c e l (inr k) b =
      let u = and_split (sound ws y) _ k in
      let v = and_split (not (eqb (bits_of ws y) 0)) (all_from (node_ok e ws) (ones (bits_of ws y / 2 ^ 16)) (child_of ws y)) u.1 in
      all-from (node_ok e ws) _ _ v.1 _ (fewer-exts (bits_of ws y) c (narrow (3 * y)) l b)

  -- every node that a path leads to is well formed, a bare root aside
  node_at : (m p e : ℕ) → m + e ≡ 8 → leads ws m p ≡ true → (bits_of ws (reached ws m p) ≡ 0) ⊎ (node_ok e ws (reached ws m p) ≡ true)
  unfolding leads reached
  node_at zero p e s t = let q : 8 ≡ e = omega arith in subst (λ (x : ℕ). (bits_of ws 0 ≡ 0) ⊎ (node_ok x ws 0 ≡ true)) q ok.root
  node_at (suc m) p e s t =
      let a = and_split (leads ws m (p / 16)) (is_set (bits_of ws (reached ws m (p / 16))) (16 + p % 16)) t in
      inr (child-ok (reached ws m (p / 16)) (p % 16) e (omega arith) (node_at m (p / 16) (suc e) (omega arith) a.0) a.1)

  -- the hop at a set bit of such a node is a hop
  hop-there : (m p b : ℕ) → leads ws m p ≡ true → b < 15 → is_set (bits_of ws (reached ws m p)) b ≡ true → (1 ≤ hop_at ws hs (reached ws m p) b) ×
      (hop_at ws hs (reached ws m p) b ≤ 32767)
  hop-there m p b t l o =
      let y : ℕ = reached ws m p in
      let i = inside m p t in
      rw o (ok.hop _ (omega (
        arith,
        ok.order.base (reached ws m p) i,
        fewer-ints (bits_of ws (reached ws m p)) b l o,
        ints-next ws
            (reached ws m p),
        ints-mono ws (suc (reached ws m p)) n i,
      )))

  -- ---- what is read out

  bit-small : (l q : ℕ) → bit_for l q < 15
  bit-small l q = (inner-len (l % 4) (q % 2 ^ (l % 4)) (omega arith) (mod-lt q (pow_pos (l % 4)))).0

  read_past : (l q : ℕ) → 32 < l → read_out ws hs l q ≡ 0
  unfolding read_out
  read_past l q u = rw (lt-leb l 32 u) refl

  -- a hop that is read out: the node is there, its bit is set
  record Held (l q : ℕ) : Type 0 where
    short : l ≤ 32
    path : leads ws (l / 4) (path_of l q) ≡ true
    set : is_set (bits_of ws (reached ws (l / 4) (path_of l q))) (bit_for l q) ≡ true

  held : (l q : ℕ) → 0 < read_out ws hs l q → Held l q
  unfolding read_out
  held l q h = go (decided (leb l 32 && leads ws (l / 4) (path_of l q))) (decided (is_set (bits_of ws (reached ws (l / 4) (path_of l q))) (bit_for l q))) h
    where
      go : ((leb l 32 && leads ws (l / 4) (path_of l q)) ≡ true) ⊎ ((leb l 32 && leads ws (l / 4) (path_of l q)) ≡ false)
          → (is_set (bits_of ws (reached ws (l / 4) (path_of l q))) (bit_for l q) ≡ true) ⊎
          (is_set (bits_of ws (reached ws (l / 4) (path_of l q))) (bit_for l q) ≡ false)
          → 0 < cond (leb l 32 && leads ws (l / 4) (path_of l q)) (hop_at ws hs (reached ws (l / 4) (path_of l q)) (bit_for l q)) 0
          → Held l q
      go (inl a) (inl b) u = let s = and_split (leb l 32) (leads ws (l / 4) (path_of l q)) a in record { short = leb-true l 32 s.0; path = s.1; set = b }
      go (inl a) (inr b) u = absurd (omega (arith, rw (a, b) at u))
      go (inr a) b u = absurd (omega (arith, rw a at u))

  reads : (l q : ℕ) → Held l q → read_out ws hs l q ≡ hop_at ws hs (reached ws (l / 4) (path_of l q)) (bit_for l q)
  unfolding read_out
  reads l q k = rw (both (le-leb l 32 k.short) k.path) refl

  hop-held : (l q : ℕ) → Held l q → (1 ≤ read_out ws hs l q) × (read_out ws hs l q ≤ 32767)
  hop-held l q k = rw (reads l q k) (hop-there (l / 4) (path_of l q) (bit_for l q) k.path (bit-small l q) k.set)

  reading : Hopping (read_out ws hs)
  reading = record { small = λ l q. small l q (below? 0 (read_out ws hs l q)); range = λ l q h. range l q (held l q h) }
    where
      small : (l q : ℕ) → (0 < read_out ws hs l q) ⊎ (read_out ws hs l q ≤ 0) → read_out ws hs l q ≤ 32767
      small l q (inl h) = (hop-held l q (held l q h)).1
      small l q (inr h) = omega arith

      range : (l q : ℕ) → Held l q → (l ≤ 32) × (q < 2 ^ l)
      range l q k =
          let t = parts-of l q in
          let a = leads-small ws (l / 4) (path_of l q) k.path in
          let m : (path_of l q + 1) * 2 ^ (l % 4) ≤ 2 ^ (4 * (l / 4)) * 2 ^ (l % 4) = mul-le-mul_right (2 ^ (l % 4)) (omega arith) in
          let d : (path_of l q + 1) * 2 ^ (l % 4) ≡ path_of l q * 2 ^ (l % 4) + 2 ^ (l % 4) = add-mul (path_of l q) 1 (2 ^ (l % 4)) ∙ ap
          (λ (x : ℕ). path_of l q * 2 ^ (l % 4) + x) (one-mul (2 ^ (l % 4))) in
          let e : 2 ^ l ≡ 2 ^ (4 * (l / 4)) * 2 ^ (l % 4) = ap (λ (x : ℕ). 2 ^ x) (sym t.0) ∙ pow-add 2 (4 * (l / 4)) (l % 4) in
          (k.short, rw e (omega (arith, t.1, mod-lt q (pow_pos (l % 4)))))

  -- ---- the routes held, and the nodes that stand by them

  abbrev rs : List Route
  rs = routes_held ws hs

  pub held-good : Good rs
  held-good = listed-good (read_out ws hs) reading

  pub held-hop : (l q : ℕ) → hop_for rs l q ≡ read_out ws hs l q
  held-hop = listed-hop (read_out ws hs) reading

  -- the route at a bit of a node
  at-bit : (m p b : ℕ) → b < 15 → 4 * m + inner_len b ≤ 32 → leads ws m p ≡ true
      → read_out ws hs (4 * m + inner_len b) (p * 2 ^ inner_len b + (b + 1 - 2 ^ inner_len b)) ≡ hop_at ws hs (reached ws m p) b
  unfolding read_out
  at-bit m p b l s t =
      let k = inner-cases b l in
      let a : (4 * m + inner_len b) / 4 ≡ m = omega (arith, k.0) in
      let c : (4 * m + inner_len b) % 4 ≡ inner_len b = omega (arith, k.0) in
      let d : (p * 2 ^ inner_len b + (b + 1 - 2 ^ inner_len b)) / 2 ^ inner_len b ≡ p = high p (inner_len b) k.2 in
      let e : (p * 2 ^ inner_len b + (b + 1 - 2 ^ inner_len b)) % 2 ^ inner_len b ≡ b + 1 - 2 ^ inner_len b = low p (inner_len b) k.2 in
      let f : 2 ^ inner_len b - 1 + (b + 1 - 2 ^ inner_len b) ≡ b = omega (arith, k.1, pow_pos (inner_len b)) in
      rw (a, c, d, e, f, le-leb (4 * m + inner_len b) 32 s, t) refl

  -- some route of the length 4 * m or more begins with the path p
  record Below (m p : ℕ) : Type 0 where
    len : ℕ
    bits : ℕ
    long : 4 * m ≤ len
    short : len ≤ 32
    begins : bits / 2 ^ (len - 4 * m) ≡ p
    hop : 0 < read_out ws hs len bits

  own_below : (m p b : ℕ) → b < 15 → 4 * m + inner_len b ≤ 32 → leads ws m p ≡ true → is_set (bits_of ws (reached ws m p)) b ≡ true → Below m p
  own_below m p b l s t o =
      let k = inner-cases b l in
      let z : 4 * m + inner_len b - 4 * m ≡ inner_len b = omega arith in
      record {
        len = 4 * m + inner_len b;
        bits = p * 2 ^ inner_len b + (b + 1 - 2 ^ inner_len b);
        long = omega arith;
        short = s;
        begins = ap (λ (x : ℕ). (p * 2 ^ inner_len b + (b + 1 - 2 ^ inner_len b)) / 2 ^ x) z ∙ high p (inner_len b) k.2;
        hop = rw (at-bit m p b l s t) (hop-there m p b t l o).0;
      }

  child-below : (m p c : ℕ) → c < 16 → Below (suc m) (p * 16 + c) → Below m p
  child-below m p c l k =
      let a = k.long in
      let z : k.len - 4 * suc m + 4 ≡ k.len - 4 * m = omega arith in
      record {
        len = k.len;
        bits = k.bits;
        long = omega arith;
        short = k.short;
        begins = ap (λ (x : ℕ). k.bits / 2 ^ x) (sym z) ∙ sym (shr-shr k.bits (k.len - 4 * suc m) 4) ∙ ap (λ (x : ℕ). x / 16) k.begins ∙ omega arith;
        hop = k.hop;
      }

  -- no path ends without a route
  below : (e m p : ℕ) → m + e ≡ 8 → leads ws m p ≡ true → node_ok e ws (reached ws m p) ≡ true → Below m p
  unfolding node_ok
  below zero m p s t k =
      let a = and_split (sound ws (reached ws m p)) (eqb (bits_of ws (reached ws m p)) 1) k in
      own_below m p 0 (omega arith) (omega arith) t (rw (eqb-true (bits_of ws (reached ws m p)) 1 a.1) refl)
  below (suc e) m p s t k =
      let w : ℕ = bits_of ws (reached ws m p) in
      let a = and_split (sound ws (reached ws m p)) _ k in
      let v = and_split (not (eqb (bits_of ws (reached ws m p)) 0))
      (all_from (node_ok e ws) (ones (bits_of ws (reached ws m p) / 2 ^ 16)) (child_of ws (reached ws m p))) a.1 in
      let b = some-bit 32 (bits_of ws (reached ws m p)) (narrow (3 * reached ws m p))
      (λ z. true≢false (sym (eq-eqb (bits_of ws (reached ws m p)) 0 z) ∙ not-true _ v.0)) in
      go b.0 b.1 b.2 a.0 (below? b.0 15) (below? b.0 16)
      (λ c l o.
      let x = leads-next ws m p c l t o in
      child-below m p c l (below e (suc m) (p * 16 + c) (omega arith) x.0 (rw x.1 (child-ok (reached ws m p) c e l (inr k) o))))
    where
      go : (b : ℕ) → b < 32 → is_set (bits_of ws (reached ws m p)) b ≡ true → sound ws (reached ws m p) ≡ true → (b < 15) ⊎ (15 ≤ b) → (b < 16) ⊎ (16 ≤ b)
          → ((c : ℕ) → c < 16 → is_set (bits_of ws (reached ws m p)) (16 + c) ≡ true → Below m p) → Below m p
      go b l o f (inl u) v ih = own_below m p b u (omega (arith, (inner-cases b u).0)) t o
      go b l o f (inr u) (inl v) ih =
          let q : b ≡ 15 = omega arith in
          absurd (true≢false (sym (rw q at o) ∙ clear-sound ws (reached ws m p) f))
      go b l o f (inr u) (inr v) ih =
          let q : 16 + (b - 16) ≡ b = omega arith in
          ih (b - 16) (omega arith) (rw q o)

  -- ---- the nodes that paths lead to are those that stand

  abbrev st : ℕ → ℕ → Bool
  st = node_stands rs

  abbrev hop : ℕ → ℕ → ℕ
  hop = hop_for rs

  stands-leads : (m p : ℕ) → st m p ≡ true → (m ≤ 8) × (leads ws m p ≡ true)
  stands-leads m p e =
      let f = any-is (through m p) rs e in
      let r = f.0 in
      let x = good-fine rs held-good f.0 f.1 in
      let a = pass-parts m p f.0 f.2 in
      let len : ℕ = f.0.len in
      let q : ℕ = slot f.0.len f.0.addr in
      let h = hop-of f.0.len (slot f.0.len f.0.addr) rs f.0 held-good f.1
      (both (eq-eqb f.0.len f.0.len refl) (eq-eqb (slot f.0.len f.0.addr) _ refl)) in
      let k = held f.0.len (slot f.0.len f.0.addr) (omega (arith, h, x.hop_one, held-hop f.0.len (slot f.0.len f.0.addr))) in
      let short : f.0.len ≤ 32 = x.prefix.len_ok in
      let d : m + (f.0.len / 4 - m) ≡ f.0.len / 4 = omega arith in
      let up = leads-up ws (f.0.len / 4 - m) m (path_of f.0.len (slot f.0.len f.0.addr))
      (subst (λ (y : ℕ). leads ws y (path_of f.0.len (slot f.0.len f.0.addr)) ≡ true) (sym d) k.path) in
      let y : f.0.len % 4 + 4 * (f.0.len / 4 - m) ≡ f.0.len - 4 * m = omega arith in
      let z : 4 * m + (f.0.len - 4 * m) ≡ f.0.len = omega arith in
      let path : path_of f.0.len (slot f.0.len f.0.addr) / 2 ^ (4 * (f.0.len / 4 - m)) ≡ p =
      shr-shr (slot f.0.len f.0.addr) (f.0.len % 4) (4 * (f.0.len / 4 - m))
      ∙ ap (λ (n : ℕ). slot f.0.len f.0.addr / 2 ^ n) y
      ∙ ap (λ (n : ℕ). slot n f.0.addr / 2 ^ (f.0.len - 4 * m)) (sym z)
      ∙ slot-up (4 * m) (f.0.len - 4 * m) f.0.addr (omega arith)
      ∙ a.1 in
      (omega arith, subst (λ (y : ℕ). leads ws m y ≡ true) path up)

  leads-stands : (m p c : ℕ) → c < 16 → m < 8 → leads ws m p ≡ true → is_set (bits_of ws (reached ws m p)) (16 + c) ≡ true → st (suc m) (p * 16 + c) ≡ true
  leads-stands m p c l u t o =
      let e : m + suc (7 - m) ≡ 8 = omega arith in
      let x = leads-next ws m p c l t o in
      let k = below (7 - m) (suc m) (p * 16 + c) (omega arith) x.0 (rw x.1 (child-ok (reached ws m p) c (7 - m) l (node_at m p (suc (7 - m)) e t) o)) in
      subst (λ (y : ℕ). st (suc m) y ≡ true) k.begins
      ((agree rs held-good).told (suc m) k.len k.bits (omega arith) k.long k.short (rw (held-hop k.len k.bits) k.hop))

  module _ (m p : ℕ) (deep : m ≤ 8) (t : leads ws m p ≡ true) where
    abbrev w : ℕ
    w = bits_of ws (reached ws m p)

    -- at depth 8 no bit but bit 0
    last : (b : ℕ) → 0 < b → m ≡ 8 → is_set w b ≡ false
    unfolding node_ok
    last b l e = go (node_at m p 0 (omega arith) t)
      where
        go : (bits_of ws (reached ws m p) ≡ 0) ⊎ (node_ok 0 ws (reached ws m p) ≡ true) → is_set w b ≡ false
        go (inl z) = untrue (is_set w b) (λ o. not-zero w b (eqb-true _ 1 o) z)
        go (inr k) =
            let a = and_split (sound ws (reached ws m p)) (eqb (bits_of ws (reached ws m p)) 1) k in
            rw (eqb-true w 1 a.1, one-bits b l) refl

    set-inner-is : (b : ℕ) → b < 15 → is_set w b ≡ inner hop (node m p) b
    unfolding bit_hop
    set-inner-is b l = rw (held-hop (4 * m + inner_len b) (p * 2 ^ inner_len b + (b + 1 - 2 ^ inner_len b)))
        (go (below? 32 (4 * m + inner_len b)) (decided (is_set w b)))
      where
        after : (x : ℕ) → 32 < 4 * m + inner_len x → 0 < x
        after zero v = absurd (omega arith)
        after (suc x) v = omega arith

        go : (32 < 4 * m + inner_len b) ⊎ (4 * m + inner_len b ≤ 32) → (is_set w b ≡ true) ⊎ (is_set w b ≡ false)
            → is_set w b ≡ ltb 0 (read_out ws hs (4 * m + inner_len b) (p * 2 ^ inner_len b + (b + 1 - 2 ^ inner_len b)))
        go (inr u) (inl o) = o ∙ sym (lt-ltb 0 (read_out ws hs (4 * m + inner_len b) (p * 2 ^ inner_len b + (b + 1 - 2 ^ inner_len b)))
            (rw (at-bit m p b l u t) (hop-there m p b t l o).0))
        go (inr u) (inr o) = o ∙ sym (ap (ltb 0) (at-bit m p b l u t ∙ ap
            (λ (x : Bool). cond x (get_or hs (base_of ws (reached ws m p) + ones (w % 2 ^ b)) 0) 0) o))
        go (inl u) o = last b (after b u) (omega (arith, (inner-cases b l).0)) ∙ sym
            (ap (ltb 0) (read_past (4 * m + inner_len b) (p * 2 ^ inner_len b + (b + 1 - 2 ^ inner_len b)) u))

    set-is-bit : (b : ℕ) → b < 32 → is_set w b ≡ set_bit st hop (node m p) b
    unfolding set_bit
    set-is-bit b l = go b (below? b 15) (below? b 16) l
      where
        clear : is_set w 15 ≡ false
        clear = cases (node_at m p (8 - m) (omega arith) t)
          where
            cases : (bits_of ws (reached ws m p) ≡ 0) ⊎ (node_ok (8 - m) ws (reached ws m p) ≡ true) → is_set w 15 ≡ false
            cases (inl z) = untrue (is_set w 15) (λ o. not-zero w 15 (eqb-true _ 1 o) z)
            cases (inr k) = clear-sound ws (reached ws m p) (node-sound (8 - m) ws (reached ws m p) k)

        ext : (c : ℕ) → c < 16 → is_set w (16 + c) ≡ child st (node m p) c
        ext c u =
            let e : m + 1 ≡ suc m = omega arith in
            rw e
            (same (is_set w (16 + c)) (st (suc m) (p * 16 + c))
            (λ o. leads-stands m p c u (shallow o (below? m 8)) t o)
            (λ o. leads-last ws m p c u (stands-leads (suc m) (p * 16 + c) o).1))
          where
            shallow : is_set w (16 + c) ≡ true → (m < 8) ⊎ (8 ≤ m) → m < 8
            shallow o (inl v) = v
            shallow o (inr v) = absurd (true≢false (sym o ∙ last (16 + c) (omega arith) (omega arith)))

        go : (x : ℕ) → (x < 15) ⊎ (15 ≤ x) → (x < 16) ⊎ (16 ≤ x) → x < 32 → is_set w x ≡ set_bit st hop (node m p) x
        go x (inl u) v h = set-inner-is x u ∙ sym (set-inner st hop (node m p) x u)
        go x (inr u) (inl v) h = let q : x ≡ 15 = omega arith in rw q clear
        go x (inr u) (inr v) h =
            let q : 16 + (x - 16) ≡ x = omega arith in
            subst (λ (y : ℕ). is_set w y ≡ set_bit st hop (node m p) y) q (ext (x - 16) (omega arith) ∙ sym (set-child st hop (node m p) (x - 16)))

    pub right : bits_of ws (reached ws m p) ≡ word st hop (node m p)
    unfolding word
    right = word-bits w (set_bit st hop (node m p)) (narrow (3 * reached ws m p)) (λ b l. bit-of w b ∙ ap bit (set-is-bit b l))

  -- ---- so they hold these routes, and are their image

  its-path : (m p : ℕ) → stands_at st m p ≡ true → (m ≤ 8) × (leads ws m p ≡ true)
  unfolding stands_at leads
  its-path zero p e = (omega arith, e)
  its-path (suc m) p e = stands-leads (suc m) p e

  its_hop : (m p b : ℕ) → stands_at st m p ≡ true → b < 15 → inner hop (node m p) b ≡ true
      → get_or hs (base_of ws (reached ws m p) + ones (bits_of ws (reached ws m p) % 2 ^ b)) 0 ≡ bit_hop hop (node m p) b
  unfolding bit_hop
  its_hop m p b e l o =
      let k = its-path m p e in
      let short = ((hopping rs held-good).range _ _ (ltb-true 0 _ o)).0 in
      let on : is_set (bits_of ws (reached ws m p)) b ≡ true = set-inner-is m p k.0 k.1 b l ∙ o in
      ap (λ (x : Bool). cond x (get_or hs (base_of ws (reached ws m p) + ones (bits_of ws (reached ws m p) % 2 ^ b)) 0) 0) (sym on)
      ∙ sym (at-bit m p b l short k.1) ∙ sym (held-hop _ _)

  pub held-holds : Holding st hop ws hs n
  held-holds = record {
    order = ok.order;
    right = λ m p e. let k = its-path m p e in right m p k.0 k.1;
    put = its_hop;
    room = ok.room;
    rest = ok.words_after;
    blank = ok.hops_after;
  }

  pub held-image : (ws ≡ (image_of rs (length ws) (length hs)).words) × (hs ≡ (image_of rs (length ws) (length hs)).hops)
  held-image = holds-image st hop ws hs n (agree rs held-good).nine held-holds

  pub held-nodes : n ≡ node_need rs
  held-nodes = nodes-are st hop ws hs n (agree rs held-good).nine held-holds

  pub held-hops : ints ws n ≡ length rs
  held-hops = hops-are st hop ws hs n (agree rs held-good).nine held-holds ∙ hops-need rs held-good
