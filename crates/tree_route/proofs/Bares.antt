-- When a node of a path has no bit: exactly when no route passes through it. And the way down a path that stands reaches its end.
use mathlib.Core.Path.{◌≡◌, refl, sym, ◌∙◌, ap, ap₂, subst, fun_ext}
use mathlib.Core.Logic.{◌⊎◌, inl, inr}
use mathlib.Core.Bool.{Bool, true, false, cond, ◌&&◌, ◌||◌, true≢false, or-false}
use mathlib.Core.List.{List}
use Prim.Native.Nat.{ℕ, zero, suc, ◌+◌, ◌-◌, ◌*◌, ◌/◌, ◌%◌, ◌^◌, ◌≤◌, ◌<◌}
use native.Mathlib.Numerals.{add-one}
use native.Mathlib.Omega.{arith}
use lib.Dec.{eqb, ltb}
use lib.Pow.{shr_le}
use lib.Pow.{high as high_part}
use borrow.Author.Tests.{lt-leb, lt-ltb, le-ltb, ltb-true}
use Rattle.bits.specs.Bit.{bit_at, packed_bits}
use Rattle.bits.specs.Count.{bit}
use Rattle.bits.specs.Slot.{slot}
use Rattle.bits.proofs.Slots.{slot-up}
use Rattle.bits.proofs.Bools.{and_split, below?, untrue}
use Rattle.tree_image.specs.Node.{bits_of, is_set}
use Rattle.tree_image.specs.Image.{node, inner_len, bit_hop, inner, child, set_bit, word}
use Rattle.tree_image.proofs.Lies.{inner-cases}
use Rattle.tree_node.proofs.Marks.{word-bits}
use Rattle.tree_same.specs.Read.{reached, leads}
use Rattle.tree_same.specs.Order.{stands_at}
use Rattle.tree_same.proofs.Back.{Shaped}
use Rattle.tree_hold.specs.More.{down_to}
use Rattle.tree_theory.specs.Stages.{Descent, OnPath}

-- ---- no bit where no route passes

-- the last node of a path has the bits of the routes: its children are below the path
pub own-word : (st : ℕ → ℕ → Bool) (hop : ℕ → ℕ → ℕ) (a m p : ℕ) → word (down_to st a m) hop (node m p) ≡ word st hop (node m p)
unfolding word set_bit down_to
own-word st hop a m p =
    ap (λ (f : ℕ → Bool). packed_bits f 32) (fun_ext (λ b. ap (λ (x : Bool). cond (ltb b 15) (inner hop (node m p) b) (cond (ltb b 16) false x)) (kid (b - 16))))
  where
    kid : (c : ℕ) → child (down_to st a m) (node m p) c ≡ child st (node m p) c
    kid c =
        ap (λ (t : Bool). st (m + 1) (p * 16 + c) || (t && eqb (p * 16 + c) (slot (4 * (m + 1)) a))) (lt-leb (m + 1) m (omega arith))
        ∙ or-false (st (m + 1) (p * 16 + c))

module _ (st : ℕ → ℕ → Bool) (hop : ℕ → ℕ → ℕ) (f : Shaped st hop) (m q : ℕ) (absent : st (suc m) q ≡ false) where
  no_hop : (k : ℕ) → k < 15 → inner hop (node (suc m) q) k ≡ false
  unfolding bit_hop
  no_hop k l =
      untrue (inner hop (node (suc m) q) k)
      (λ t.
      let j = inner-cases k l in
      let z : 4 * suc m + inner_len k - 4 * suc m ≡ inner_len k = omega arith in
      let u = ltb-true 0 _ t in
      let r = (f.hopping.range _ _ u).0 in
      let e = f.agree.told (suc m) (4 * suc m + inner_len k) (q * 2 ^ inner_len k + (k + 1 - 2 ^ inner_len k)) (omega arith) (omega arith) r u in
      let d : (q * 2 ^ inner_len k + (k + 1 - 2 ^ inner_len k)) / 2 ^ (4 * suc m + inner_len k - 4 * suc m) ≡ q =
      ap (λ (i : ℕ). (q * 2 ^ inner_len k + (k + 1 - 2 ^ inner_len k)) / 2 ^ i) z ∙ high_part q (inner_len k) j.2 in
      true≢false (sym e ∙ ap (st (suc m)) d ∙ absent))

  no-child : (d : ℕ) → d < 16 → child st (node (suc m) q) d ≡ false
  unfolding stands_at
  no-child d l =
      untrue (child st (node (suc m) q) d)
      (λ t.
      let a : suc m + 1 ≡ suc (suc m) = omega arith in
      let u : (q * 16 + d) / 16 ≡ q = omega arith in
      let e = f.up (suc m) (q * 16 + d) (rw a at t) in
      true≢false (sym (rw u at e) ∙ absent))

  pub absent-word : word st hop (node (suc m) q) ≡ 0
  unfolding word set_bit
  absent-word = sym (word-bits 0 (set_bit st hop (node (suc m) q)) (omega arith) (λ b l. zero_bit b ∙ ap bit (sym (none b l (below? b 15) (below? b 16)))))
    where
      zero_bit : (k : ℕ) → bit_at 0 k ≡ 0
      zero_bit k = omega (arith, shr_le 0 k)

      none : (b : ℕ) → b < 32 → (b < 15) ⊎ (15 ≤ b) → (b < 16) ⊎ (16 ≤ b) → set_bit st hop (node (suc m) q) b ≡ false
      none b l (inl u) v = rw (lt-ltb b 15 u) (no_hop b u)
      none b l (inr u) (inl v) = rw (le-ltb b 15 u, lt-ltb b 16 v) refl
      none b l (inr u) (inr v) = rw (le-ltb b 15 u, le-ltb b 16 v) (no-child (b - 16) (omega arith))

-- ---- the whole way

module _ (ws : List ℕ) (a : ℕ) where
  -- what leads to a node leads to its parent, by its bit
  pub leads-step : (m : ℕ) → m < 8 → leads ws (suc m) (slot (4 * suc m) a) ≡ true
      → (leads ws m (slot (4 * m) a) ≡ true) × (is_set (bits_of ws (reached ws m (slot (4 * m) a))) (16 + slot (4 * suc m) a % 16) ≡ true)
  unfolding leads
  leads-step m l t =
      let e : 4 * suc m ≡ 4 * m + 4 = omega arith in
      let q : slot (4 * suc m) a / 16 ≡ slot (4 * m) a = ap (λ (z : ℕ). slot z a / 16) e ∙ slot-up (4 * m) 4 a (omega arith) in
      let s = and_split (leads ws m (slot (4 * suc m) a / 16)) (is_set (bits_of ws (reached ws m (slot (4 * suc m) a / 16))) (16 + slot (4 * suc m) a % 16)) t in
      (subst (λ (z : ℕ). leads ws m z ≡ true) q s.0, subst (λ (z : ℕ). is_set (bits_of ws (reached ws m z)) (16 + slot (4 * suc m) a % 16) ≡ true) q s.1)

  pub leads-above : (e d : ℕ) → d + e ≤ 8 → leads ws (d + e) (slot (4 * (d + e)) a) ≡ true → leads ws d (slot (4 * d) a) ≡ true
  leads-above zero d l t = let q : d + 0 ≡ d = omega arith in subst (λ (z : ℕ). leads ws z (slot (4 * z) a) ≡ true) q t
  leads-above (suc e) d l t =
      let q : d + suc e ≡ suc (d + e) = omega arith in
      leads-above e d (omega arith) (leads-step (d + e) (omega arith) (subst (λ (z : ℕ). leads ws z (slot (4 * z) a) ≡ true) q t)).0

  pub full-way : (n m x d : ℕ) → m ≤ 8 → leads ws m (slot (4 * m) a) ≡ true → Descent ws n a m x d → d ≡ m
  full-way n m x d l t w = go (below? d m)
    where
      up : d ≤ m
      up = w.upto

      go : (d < m) ⊎ (m ≤ d) → d ≡ m
      go (inr u) = omega arith
      go (inl u) =
          let q : suc d + (m - suc d) ≡ m = omega arith in
          let s =
          leads-step d (omega arith) (leads-above (m - suc d) (suc d) (omega arith) (subst (λ (z : ℕ). leads ws z (slot (4 * z) a) ≡ true) (sym q) t)) in
          absurd (true≢false (sym s.1 ∙ ap₂ (λ (z c : ℕ). is_set (bits_of ws z) (16 + slot (4 * c) a % 16)) (sym w.at) (sym (add-one d)) ∙ w.stop u))

-- ---- what the code's test of a node says

module _ (ws : List ℕ) (n a m : ℕ) (p : OnPath ws n a m) where
  -- the root is never taken away
  pub bare-root : m ≡ 0 → false ≡ (ltb 0 m && eqb (bits_of ws (reached ws m (slot (4 * m) a))) 0)
  bare-root e = rw (le-ltb 0 m (omega arith)) refl

  pub bare-node : (m ≡ 0 → ⊥) → (x d : ℕ) → Descent ws n a m x d → eqb (bits_of ws x) 0 ≡ (ltb 0 m && eqb (bits_of ws (reached ws m (slot (4 * m) a))) 0)
  bare-node z x d w =
      rw (lt-ltb 0 m (omega arith))
      (ap (λ (y : ℕ). eqb (bits_of ws y) 0) (w.at ∙ ap (λ (y : ℕ). reached ws y (slot (4 * y) a)) (full-way ws a n m x d p.deep p.stands w)))
