-- The zeros before the first bit in which two addresses differ are as many as the bits that they share.
use mathlib.Core.Path.{◌≡◌, sym, ap, ◌∙◌}
use Prim.Native.Nat.{ℕ, zero, suc, ◌+◌, ◌-◌, ◌*◌, ◌/◌, ◌^◌, ◌≤◌, ◌<◌}
use native.Mathlib.Nat.{div-eq_of_lt, pow-suc, lt-div-mul-add}
use native.Mathlib.Omega.{arith}
use lib.Bits.{bit_xor, xor_lt, xor_add_and, xor_self, xor_shr, and_le_l, and_le_r}
use lib.Count.{count_leading_zeros, leading_length}
use lib.Pow.{pow_pos, pow_mono}
use Rattle.bits.specs.Slot.{slot}
use Rattle.longest.specs.Longest.{Shared}

-- two numbers that differ in no bit are one
no_difference : (a b : ℕ) → bit_xor a b ≡ 0 → a ≡ b
no_difference a b e = omega (arith, xor_add_and a b, and_le_l a b, and_le_r a b)

module _ (a b : ℕ) (ha : a < 2 ^ 32) (hb : b < 2 ^ 32) where
  pub shared_zeros : Shared a b (count_leading_zeros 32 (bit_xor a b))
  shared_zeros =
      let t = leading_length 32 (bit_xor a b) (xor_lt 32 a b ha hb) in
      record {
        most = omega (arith, t.1);
        same = λ l h.
            let below : bit_xor a b < 2 ^ (32 - l) = omega (arith, t.2, pow_mono {i = t.0} {j = 32 - l} (omega (arith, t.1))) in
            no_difference (slot l a) (slot l b) (sym (xor_shr a b (32 - l)) ∙ div-eq_of_lt below);
        more = λ l h u e. differ t.0 l t.1 t.3 h u e;
      }
    where
      differ : (m l : ℕ) → count_leading_zeros 32 (bit_xor a b) + m ≡ 32 → 2 ^ m ≤ 2 * bit_xor a b + 1 → count_leading_zeros 32 (bit_xor a b) < l → l ≤ 32
          → slot l a ≡ slot l b → ⊥
      differ zero l s p h u e = omega arith
      differ (suc m) l s p h u e =
          let zero-there : bit_xor a b / 2 ^ (32 - l) ≡ 0 = xor_shr a b (32 - l) ∙ ap (bit_xor (slot l a)) (sym e) ∙ xor_self (slot l a) in
          let twice : 2 ^ suc m ≡ 2 ^ m * 2 = pow-suc 2 m in
          let there : 2 ^ (32 - l) ≤ bit_xor a b = omega (arith, pow_mono {i = 32 - l} {j = m} (omega arith)) in
          let below : bit_xor a b < 0 * 2 ^ (32 - l) + 2 ^ (32 - l) = rw zero-there at (lt-div-mul-add {a = bit_xor a b} (pow_pos (32 - l))) in
          omega arith
