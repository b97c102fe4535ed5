-- A bit cleared by what differs from it: the other bits stay, and the set one is none.
use mathlib.Core.Path.{◌≡◌, refl, sym, ◌∙◌, ap, ap₂}
use mathlib.Core.Logic.{◌⊎◌, inl, inr}
use mathlib.Core.Bool.{Bool, true, false, cond}
use Prim.Native.Nat.{ℕ, ◌*◌, ◌/◌, ◌%◌, ◌^◌, ◌<◌}
use native.Mathlib.Nat.{mod-lt}
use native.Mathlib.Omega.{arith}
use lib.Dec.{eqb}
use lib.Bits.{bit_xor, or_zero_l, xor_zero_r, xor_self, xor_lt, xor_shr, xor_mod}
use lib.Pow.{pow_pos, shr_le}
use borrow.Author.Tests.{eq-eqb, ne_eqb, eqb-true}
use Rattle.bits.specs.Bit.{bit_at}
use Rattle.bits.proofs.Bools.{equal?}
use Rattle.tree_image.specs.Node.{is_set}
use Rattle.tree_node.specs.NodeRuns.{WithBit}
use Rattle.tree_node.proofs.Marks.{with-bit}

-- the bits of a power of 2
one_bit : (b k : ℕ) → b < 32 → bit_at ((1 * 2 ^ b) % 2 ^ 32) k ≡ cond (eqb k b) 1 0
one_bit b k l =
    let z : bit_at 0 k ≡ 0 = omega (arith, shr_le 0 k) in
    ap (λ (x : ℕ). bit_at x k) (sym (or_zero_l ((1 * 2 ^ b) % 2 ^ 32))) ∙ (with-bit 0 b (omega arith) l).bits k ∙ ap (cond (eqb k b) 1) z

module _ (w b : ℕ) (fits : w < 2 ^ 32) (l : b < 32) (set : is_set w b ≡ true) where
  abbrev r : ℕ
  r = bit_xor w ((1 * 2 ^ b) % 2 ^ 32)

  xor-bit : (k : ℕ) → bit_at r k ≡ bit_xor (bit_at w k) (cond (eqb k b) 1 0)
  xor-bit k = ap (λ (x : ℕ). x % 2) (xor_shr w ((1 * 2 ^ b) % 2 ^ 32) k) ∙ xor_mod (w / 2 ^ k) ((1 * 2 ^ b) % 2 ^ 32 / 2 ^ k) 1 ∙ ap
      (bit_xor (bit_at w k)) (one_bit b k l)

  there : bit_at w b ≡ 1
  there = eqb-true (bit_at w b) 1 set

  pub bit-cleared : WithBit r b w × (is_set r b ≡ false) × (r < 2 ^ 32)
  bit-cleared = (
    record { fits = fits; bits = λ k. go k (equal? k b) },
    ap (λ (x : ℕ). eqb x 1) (xor-bit b ∙ ap₂ (λ (x : ℕ) (t : Bool). bit_xor x (cond t 1 0)) there (eq-eqb b b refl) ∙ xor_self 1),
    xor_lt 32 w _ fits (mod-lt (1 * 2 ^ b) (pow_pos 32)),
  )
    where
      go : (k : ℕ) → (k ≡ b) ⊎ (k ≡ b → ⊥) → bit_at w k ≡ cond (eqb k b) 1 (bit_at r k)
      go k (inl e) = rw (e, eq-eqb b b refl) there
      go k (inr n) = rw (ne_eqb k b n) (sym (xor-bit k ∙ ap (λ (t : Bool). bit_xor (bit_at w k) (cond t 1 0)) (ne_eqb k b n) ∙ xor_zero_r (bit_at w k)))
