-- The ones of words with one internal bit more: one internal one more in its node, so one more before every node after it, and no extending
-- one more.
use mathlib.Core.Path.{◌≡◌, refl, sym, ◌∙◌, ap}
use mathlib.Core.Logic.{◌⊎◌, inl, inr}
use mathlib.Core.Bool.{Bool, cond}
use mathlib.Core.List.{List}
use Prim.Native.Nat.{ℕ, zero, suc, ◌+◌, ◌/◌, ◌%◌, ◌^◌, ◌≤◌, ◌<◌}
use native.Mathlib.Omega.{arith}
use lib.Dec.{eqb}
use lib.Pow.{shr_mod}
use lib.Count.{ones}
use borrow.Author.Tests.{eq-eqb, ne_eqb}
use Rattle.bits.specs.Bit.{bit_at}
use Rattle.bits.proofs.Bools.{below?, equal?}
use Rattle.bits.proofs.Counts.{count-ext, without, without_other, without-same, count-without}
use Rattle.bits.proofs.Packed.{rank-count, upper-count}
use Rattle.tree_image.specs.Node.{bits_of, is_set}
use Rattle.tree_same.specs.Order.{exts, ints}
use Rattle.tree_formed.proofs.Held.{bit-of, ints-next}
use Rattle.tree_hold.specs.Edits.{MarkedBits}

module _ {ws ws' : List ℕ} {n x b : ℕ} (g : MarkedBits ws ws' n x b) where
  abbrev w : ℕ
  w = bits_of ws x

  abbrev w' : ℕ
  w' = bits_of ws' x

  pub bit-same : (k : ℕ) → (k ≡ b → ⊥) → bit_at w' k ≡ bit_at w k
  bit-same k e = g.node.bits k ∙ ap (λ (z : Bool). cond z 1 (bit_at w k)) (ne_eqb k b e)

  pub bit-new : bit_at w' b ≡ 1
  bit-new = g.node.bits b ∙ ap (λ (z : Bool). cond z 1 (bit_at w b)) (eq-eqb b b refl)

  set_same : (k : ℕ) → (k ≡ b → ⊥) → is_set w' k ≡ is_set w k
  set_same k e = ap (λ (z : ℕ). eqb z 1) (bit-same k e)

  without_is : (k : ℕ) → without (is_set w') b k ≡ is_set w k
  without_is k = go (equal? k b)
    where
      go : (k ≡ b) ⊎ (k ≡ b → ⊥) → without (is_set w') b k ≡ is_set w k
      go (inl e) = rw e (without-same (is_set w') b ∙ sym g.free)
      go (inr e) = without_other (is_set w') b k e ∙ set_same k e

  pub low-upto : (d : ℕ) → d ≤ b → ones (w' % 2 ^ d) ≡ ones (w % 2 ^ d)
  low-upto d l = rank-count w' (is_set w) d (λ i u. bit-same i (λ (e : i ≡ b). omega arith) ∙ bit-of w i) ∙ sym (rank-count w (is_set w) d (λ i u. bit-of w i))

  pub low-past : (d : ℕ) → b < d → ones (w' % 2 ^ d) ≡ ones (w % 2 ^ d) + 1
  low-past d l =
      rank-count w' (is_set w') d (λ i u. bit-of w' i) ∙ count-without (is_set w') b d l (eq-eqb _ 1 bit-new)
      ∙ ap suc (count-ext (without (is_set w') b) (is_set w) d (λ i u. without_is i) ∙ sym (rank-count w (is_set w) d (λ i u. bit-of w i))) ∙ omega arith

  -- the extending bits are as they were
  high_same : (d : ℕ) → ones (w' / 2 ^ 16 % 2 ^ d) ≡ ones (w / 2 ^ 16 % 2 ^ d)
  high_same d =
      upper-count w' (λ i. is_set w (16 + i)) d (λ i u. bit-same (16 + i) (λ (e : 16 + i ≡ b). omega (arith, g.small)) ∙ bit-of w (16 + i))
      ∙ sym (upper-count w (λ i. is_set w (16 + i)) d (λ i u. bit-of w (16 + i)))

  high-all : ones (w' / 2 ^ 16) ≡ ones (w / 2 ^ 16)
  high-all = ap ones (sym (shr_mod {n = w'} 16 16 g.node.fits)) ∙ high_same 16 ∙ ap ones (shr_mod {n = w} 16 16 (g.narrow x g.inside))

  pub high-at : (i d : ℕ) → i < n → ones (bits_of ws' i / 2 ^ 16 % 2 ^ d) ≡ ones (bits_of ws i / 2 ^ 16 % 2 ^ d)
  high-at i d l = go (equal? i x)
    where
      go : (i ≡ x) ⊎ (i ≡ x → ⊥) → ones (bits_of ws' i / 2 ^ 16 % 2 ^ d) ≡ ones (bits_of ws i / 2 ^ 16 % 2 ^ d)
      go (inl e) = rw e (high_same d)
      go (inr e) = ap (λ (z : ℕ). ones (z / 2 ^ 16 % 2 ^ d)) (g.other i l e)

  pub exts-same : (i : ℕ) → i ≤ n → exts ws' i ≡ exts ws i
  unfolding exts
  exts-same zero l = refl
  exts-same (suc i) l = omega (arith, exts-same i (omega arith), go (equal? i x))
    where
      go : (i ≡ x) ⊎ (i ≡ x → ⊥) → ones (bits_of ws' i / 2 ^ 16) ≡ ones (bits_of ws i / 2 ^ 16)
      go (inl e) = rw e high-all
      go (inr e) = ap (λ (z : ℕ). ones (z / 2 ^ 16)) (g.other i l e)

  pub ints-upto : (i : ℕ) → i ≤ x → ints ws' i ≡ ints ws i
  unfolding ints
  ints-upto zero l = refl
  ints-upto (suc i) l = omega (
    arith,
    ints-upto i (omega arith),
    ap (λ (z : ℕ). ones (z % 2 ^ 15))
        (g.other i (omega (arith, g.inside)) (λ (e : i ≡ x). omega arith)),
  )

  pub ints-after : (i : ℕ) → x < i → i ≤ n → ints ws' i ≡ ints ws i + 1
  ints-after zero l u = absurd (omega arith)
  ints-after (suc i) l u = go (below? x i) (ints-after i)
    where
      go : (x < i) ⊎ (i ≤ x) → (x < i → i ≤ n → ints ws' i ≡ ints ws i + 1) → ints ws' (suc i) ≡ ints ws (suc i) + 1
      go (inl v) ih = omega (
        arith,
        ih v (omega arith),
        ints-next ws i,
        ints-next ws' i,
        ap (λ (z : ℕ). ones (z % 2 ^ 15))
            (g.other i u (λ (e : i ≡ x). omega arith)),
      )
      go (inr v) ih = let e : i ≡ x = omega arith in rw e (omega (arith, ints-next ws x, ints-next ws' x, ints-upto x (omega arith), low-past 15 g.small))
