-- Bits that are set in a word, and the word that has exactly the bits of a test.
use mathlib.Core.Path.{◌≡◌, refl, sym, ◌∙◌, ap, ap₂}
use mathlib.Core.Logic.{◌⊎◌, inl, inr}
use mathlib.Core.Bool.{Bool, true, false, cond}
use Prim.Native.Nat.{ℕ, zero, suc, ◌+◌, ◌-◌, ◌*◌, ◌/◌, ◌%◌, ◌^◌, ◌≤◌, ◌<◌}
use native.Mathlib.Nat.{mod-lt, mod-eq_of_lt, div-eq_of_lt, le_refl, le_step, add_comm}
use native.Mathlib.Numerals.{add-one}
use native.Mathlib.Omega.{arith}
use lib.Dec.{eqb}
use lib.Bits.{bit_and, bit_or, or_lt, or_shr, or_mod, or_zero_r, and_mask}
use lib.Pow.{pow_pos, pow-add, pow-lt, pow_mono, shl-shr, mod-pow-add}
use borrow.Author.Tests.{eq-eqb, ne_eqb, lt-ltb, le-ltb}
use Rattle.bits.specs.Bit.{bit_at, packed_bits}
use Rattle.bits.specs.Count.{bit}
use Rattle.bits.specs.Slot.{slot}
use Rattle.bits.proofs.Slots.{shl_one}
use Rattle.bits.proofs.Bools.{equal?, below?}
use Rattle.tree_node.specs.NodeRuns.{node_bit, WithBit}

-- a bit of a word that joins two, and of a power of 2
bit-or : (x y k : ℕ) → bit_at (bit_or x y) k ≡ bit_or (bit_at x k) (bit_at y k)
bit-or x y k = ap (λ (z : ℕ). z % 2) (or_shr x y k) ∙ or_mod (x / 2 ^ k) (y / 2 ^ k) 1

bit-pow : (b k : ℕ) → bit_at (2 ^ b) k ≡ bit (eqb k b)
bit-pow b k = go (equal? k b) (below? k b)
  where
    go : (k ≡ b) ⊎ (k ≡ b → ⊥) → (k < b) ⊎ (b ≤ k) → bit_at (2 ^ b) k ≡ bit (eqb k b)
    go (inl e) o =
        rw (eq-eqb k b e, e)
        (ap (λ (z : ℕ). z % 2) (ap (λ (z : ℕ). z / 2 ^ b) (omega arith) ∙ shl-shr 1 b))
    go (inr n) (inl l) =
        let z : ℕ = b - suc k in
        let e : b ≡ 1 + (b - suc k) + k = omega arith in
        let p : 2 ^ b ≡ 2 ^ (1 + (b - suc k)) * 2 ^ k = ap (λ (x : ℕ). 2 ^ x) e ∙ pow-add 2 (1 + (b - suc k)) k in
        rw (ne_eqb k b n)
        (ap (λ (x : ℕ). x / 2 ^ k % 2) p ∙ ap (λ (x : ℕ). x % 2) (shl-shr (2 ^ (1 + (b - suc k))) k) ∙ ap (λ (x : ℕ). x % 2)
        (pow-add 2 1 (b - suc k)) ∙ omega arith)
    go (inr n) (inr l) = rw (ne_eqb k b n) (ap (λ (x : ℕ). x % 2) (div-eq_of_lt (pow-lt {i = b} {j = k} (omega arith))))

or-bit : (x : ℕ) (t : Bool) → x < 2 → bit_or x (bit t) ≡ cond t 1 x
or-bit zero true h = refl
or-bit (suc zero) true h = refl
or-bit (suc (suc x)) true h = absurd (omega arith)
or-bit x false h = or_zero_r x

pub with-bit : (w b : ℕ) → w < 2 ^ 32 → b < 32 → WithBit w b (bit_or w ((1 * 2 ^ b) % 2 ^ 32))
with-bit w b h l = record {
  fits = or_lt 32 w _ h (mod-lt (1 * 2 ^ b) (pow_pos 32));
  bits = λ k. ap (λ (x : ℕ). bit_at (bit_or w x) k) (shl_one 32 b l) ∙ bit-or w (2 ^ b) k ∙ ap (bit_or (bit_at w k)) (bit-pow b k) ∙ or-bit (bit_at w k)
      (eqb k b) (omega arith);
}

-- a number is its bits
packed-bits : (w : ℕ) (f : ℕ → Bool) (n : ℕ) → ((b : ℕ) → b < n → bit_at w b ≡ bit (f b)) → packed_bits f n ≡ w % 2 ^ n
unfolding packed_bits
packed-bits w f zero h = sym (let z : w % 1 ≡ 0 = omega arith in z)
packed-bits w f (suc n) h =
    ap₂ (λ (x y : ℕ). x * 2 ^ n + y) (sym (h n (le_refl (suc n)))) (packed-bits w f n (λ b l. h b (le_step l)))
    ∙ sym (mod-pow-add w 1 n) ∙ ap (λ (x : ℕ). w % 2 ^ x) (add_comm 1 n ∙ add-one n)

pub word-bits : (w : ℕ) (f : ℕ → Bool) → w < 2 ^ 32 → ((b : ℕ) → b < 32 → bit_at w b ≡ bit (f b)) → w ≡ packed_bits f 32
word-bits w f l h = sym (packed-bits w f 32 h ∙ mod-eq_of_lt l)

-- the bit at which a route lies, as the code works it out
module _ (m len : ℕ) (low : 4 * m ≤ len) (short : len < 4 * (m + 1)) where
  size : ((1 * 2 ^ (len - 4 * m)) % 2 ^ 32 ≡ 2 ^ (len - 4 * m)) × (1 ≤ 2 ^ (len - 4 * m)) × (2 ^ (len - 4 * m) ≤ 8)
  size = (shl_one 32 (len - 4 * m) (omega arith), pow_pos (len - 4 * m), pow_mono {i = len - 4 * m} {j = 3} (omega arith))

  pub some : 1 ≤ (1 * 2 ^ (len - 4 * m)) % 2 ^ 32
  some = omega (arith, size.0, size.1)

  pub inner-place : (addr x : ℕ) → x ≡ slot len addr
      → ((1 * 2 ^ (len - 4 * m)) % 2 ^ 32 - 1 + bit_and x ((1 * 2 ^ (len - 4 * m)) % 2 ^ 32 - 1) ≡ node_bit m addr len)
      × ((1 * 2 ^ (len - 4 * m)) % 2 ^ 32 - 1 + bit_and x ((1 * 2 ^ (len - 4 * m)) % 2 ^ 32 - 1) < 32)
  unfolding node_bit
  inner-place addr x e = rw (size.0, e, and_mask, lt-ltb len (4 * (m + 1)) short)
      (refl, omega (arith, size.2, mod-lt (slot len addr) (pow_pos (len - 4 * m))))

pub outer-place : (m addr len : ℕ) → 4 * (m + 1) ≤ len → (x : ℕ) → x ≡ slot (4 * (m + 1)) addr → (16 + x % 16 ≡ node_bit m addr len) × (16 + x % 16 < 32)
unfolding node_bit
outer-place m addr len long x e = rw (e, le-ltb len (4 * (m + 1)) long) (refl, omega arith)
