-- The ones of words with one empty node more: one extending one more in the parent, so one more before every node after it, and no
-- internal one more.
use mathlib.Core.Path.{◌≡◌, refl, sym, ◌∙◌, ap, subst}
use mathlib.Core.Logic.{◌⊎◌, inl, inr}
use mathlib.Core.Bool.{Bool, true, cond}
use mathlib.Core.List.{List}
use Prim.Native.Nat.{ℕ, zero, suc, ◌+◌, ◌-◌, ◌/◌, ◌%◌, ◌^◌, ◌≤◌, ◌<◌}
use native.Mathlib.Nat.{add-zero}
use native.Mathlib.Omega.{arith}
use lib.Dec.{eqb}
use lib.Pow.{shr_mod}
use lib.Count.{ones}
use borrow.Author.Tests.{eq-eqb, ne_eqb}
use Rattle.bits.specs.Bit.{bit_at}
use Rattle.bits.specs.Count.{count}
use Rattle.bits.proofs.Bools.{below?, equal?}
use Rattle.bits.proofs.Counts.{count-ext, without, without_other, without-same, count-without}
use Rattle.bits.proofs.Packed.{rank-count, upper-count}
use Rattle.tree_image.specs.Node.{bits_of, is_set}
use Rattle.tree_same.specs.Order.{exts, ints}
use Rattle.tree_formed.proofs.Held.{bit-of, exts-next, ints-next}
use Rattle.tree_hold.specs.Edits.{GraftedBits}

ones_none : ones (0 / 2 ^ 16) ≡ 0
unfolding ones
ones_none = refl

ones-none-low : ones (0 % 2 ^ 15) ≡ 0
unfolding ones
ones-none-low = refl

module _ {ws ws' : List ℕ} {n x c y : ℕ} (g : GraftedBits ws ws' n x c y) where
  abbrev pub w : ℕ
  w = bits_of ws x

  abbrev pub w' : ℕ
  w' = bits_of ws' x

  abbrev pub f : ℕ → Bool
  f i = is_set w (16 + i)

  abbrev pub f' : ℕ → Bool
  f' i = is_set w' (16 + i)

  parent_in : x < n
  parent_in = omega (arith, g.after, g.inside)

  -- ---- the word of the parent

  pub bit-same : (k : ℕ) → (k ≡ 16 + c → ⊥) → bit_at w' k ≡ bit_at w k
  bit-same k h = g.parent.bits k ∙ ap (λ (b : Bool). cond b 1 (bit_at w k)) (ne_eqb k (16 + c) h)

  pub bit-new : bit_at w' (16 + c) ≡ 1
  bit-new = g.parent.bits (16 + c) ∙ ap (λ (b : Bool). cond b 1 (bit_at w (16 + c))) (eq-eqb (16 + c) (16 + c) refl)

  set_same : (i : ℕ) → (i ≡ c → ⊥) → f' i ≡ f i
  set_same i h = ap (λ (b : ℕ). eqb b 1) (bit-same (16 + i) (λ e. h (omega arith)))

  set_new : f' c ≡ true
  set_new = eq-eqb _ 1 bit-new

  without_is : (i : ℕ) → without f' c i ≡ f i
  without_is i = go (equal? i c)
    where
      go : (i ≡ c) ⊎ (i ≡ c → ⊥) → without f' c i ≡ f i
      go (inl e) = rw e (without-same f' c ∙ sym g.free)
      go (inr h) = without_other f' c i h ∙ set_same i h

  pub count-upto : (d : ℕ) → d ≤ c → count f' d ≡ count f d
  count-upto d l = count-ext f' f d (λ i u. set_same i (λ (e : i ≡ c). omega arith))

  pub count_past : (d : ℕ) → c < d → count f' d ≡ count f d + 1
  count_past d l = count-without f' c d l set_new ∙ ap suc (count-ext (without f' c) f d (λ i u. without_is i)) ∙ omega arith

  pub rank-old : (d : ℕ) → ones (w / 2 ^ 16 % 2 ^ d) ≡ count f d
  rank-old d = upper-count w f d (λ i u. bit-of w (16 + i))

  pub rank-new : (d : ℕ) → ones (w' / 2 ^ 16 % 2 ^ d) ≡ count f' d
  rank-new d = upper-count w' f' d (λ i u. bit-of w' (16 + i))

  pub all_old : ones (w / 2 ^ 16) ≡ count f 16
  all_old = ap ones (sym (shr_mod {n = w} 16 16 (g.narrow x parent_in))) ∙ rank-old 16

  exts-more : ones (w' / 2 ^ 16) ≡ ones (w / 2 ^ 16) + 1
  exts-more = ap ones (sym (shr_mod {n = w'} 16 16 g.parent.fits)) ∙ rank-new 16 ∙ count_past 16 g.small ∙ ap (λ (k : ℕ). k + 1) (sym all_old)

  low_same : (b : ℕ) → b ≤ 15 → ones (w' % 2 ^ b) ≡ ones (w % 2 ^ b)
  low_same b l =
      rank-count w' (is_set w) b (λ i u. bit-same i (λ (e : i ≡ 16 + c). omega arith) ∙ bit-of w i) ∙ sym (rank-count w (is_set w) b (λ i u. bit-of w i))

  -- ---- the ones before a node

  pub exts-upto : (i : ℕ) → i ≤ x → exts ws' i ≡ exts ws i
  unfolding exts
  exts-upto zero l = refl
  exts-upto (suc i) l = omega (
    arith,
    exts-upto i (omega arith),
    ap (λ (k : ℕ). ones (k / 2 ^ 16))
        (g.below i (omega (arith, g.after)) (λ (e : i ≡ x). omega arith)),
  )

  pub exts-between : (i : ℕ) → x < i → i ≤ y → exts ws' i ≡ exts ws i + 1
  exts-between zero l u = absurd (omega arith)
  exts-between (suc i) l u = go (below? x i) (exts-between i)
    where
      go : (x < i) ⊎ (i ≤ x) → (x < i → i ≤ y → exts ws' i ≡ exts ws i + 1) → exts ws' (suc i) ≡ exts ws (suc i) + 1
      go (inl v) ih =
          omega (
            arith,
            ih v (omega arith),
            exts-next ws i,
            exts-next ws' i,
            ap (λ (k : ℕ). ones (k / 2 ^ 16))
                (g.below i (omega arith) (λ (e : i ≡ x). omega arith)),
          )
      go (inr v) ih =
          let e : i ≡ x = omega arith in
          rw e (omega (arith, exts-next ws x, exts-next ws' x, exts-upto x (omega arith), exts-more))

  exts-above : (d : ℕ) → y + d ≤ n → exts ws' (suc (y + d)) ≡ exts ws (y + d) + 1
  exts-above zero l =
      let z : ones (bits_of ws' y / 2 ^ 16) ≡ 0 = ap (λ (k : ℕ). ones (k / 2 ^ 16)) g.new ∙ ones_none in
      rw add-zero (omega (arith, exts-next ws' y, exts-between y g.after (omega arith), z))
  exts-above (suc d) l =
      let e : y + suc d ≡ suc (y + d) = omega arith in
      rw e (omega (
        arith,
        exts-above d (omega arith),
        exts-next ws' (suc (y + d)),
        exts-next ws (y + d),
        ap (λ (k : ℕ). ones (k / 2 ^ 16))
            (g.above (y + d) (omega arith) (omega arith)),
      ))

  pub exts-later : (i : ℕ) → y ≤ i → i ≤ n → exts ws' (suc i) ≡ exts ws i + 1
  exts-later i l u = let e : y + (i - y) ≡ i = omega arith in subst (λ (k : ℕ). exts ws' (suc k) ≡ exts ws k + 1) e (exts-above (i - y) (omega arith))

  pub low-at : (i : ℕ) → i < y → (b : ℕ) → b ≤ 15 → ones (bits_of ws' i % 2 ^ b) ≡ ones (bits_of ws i % 2 ^ b)
  low-at i l b u = go (equal? i x)
    where
      go : (i ≡ x) ⊎ (i ≡ x → ⊥) → ones (bits_of ws' i % 2 ^ b) ≡ ones (bits_of ws i % 2 ^ b)
      go (inl e) = rw e (low_same b u)
      go (inr h) = ap (λ (k : ℕ). ones (k % 2 ^ b)) (g.below i l h)

  pub ints-upto : (i : ℕ) → i ≤ y → ints ws' i ≡ ints ws i
  unfolding ints
  ints-upto zero l = refl
  ints-upto (suc i) l = omega (arith, ints-upto i (omega arith), low-at i l 15 (omega arith))

  ints-above : (d : ℕ) → y + d ≤ n → ints ws' (suc (y + d)) ≡ ints ws (y + d)
  ints-above zero l =
      let z : ones (bits_of ws' y % 2 ^ 15) ≡ 0 = ap (λ (k : ℕ). ones (k % 2 ^ 15)) g.new ∙ ones-none-low in
      rw add-zero (omega (arith, ints-next ws' y, ints-upto y (omega arith), z))
  ints-above (suc d) l =
      let e : y + suc d ≡ suc (y + d) = omega arith in
      rw e (omega (
        arith,
        ints-above d (omega arith),
        ints-next ws' (suc (y + d)),
        ints-next ws (y + d),
        ap (λ (k : ℕ). ones (k % 2 ^ 15))
            (g.above (y + d) (omega arith) (omega arith)),
      ))

  pub ints-later : (i : ℕ) → y ≤ i → i ≤ n → ints ws' (suc i) ≡ ints ws i
  ints-later i l u = let e : y + (i - y) ≡ i = omega arith in subst (λ (k : ℕ). ints ws' (suc k) ≡ ints ws k) e (ints-above (i - y) (omega arith))
