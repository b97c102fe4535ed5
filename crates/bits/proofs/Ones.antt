-- Laws of a word's bits.
use mathlib.Core.Path.{◌≡◌, refl, sym, ap, ◌∙◌}
use Prim.Native.Nat.{ℕ, zero, suc, ◌+◌, ◌-◌, ◌*◌, ◌/◌, ◌%◌, ◌^◌, ◌≤◌, ◌<◌}
use native.Mathlib.Nat.{mod-lt, add_comm}
use native.Mathlib.Numerals.{add-one}
use native.Mathlib.Omega.{arith}
use lib.Pow.{mod-pow-add, pow_pos}
use lib.Bits.{bit_and, and_mask}
use lib.Count.{ones, ones_cat, ones-le}
use Rattle.bits.specs.Bit.{bit_at, rank}
use Rattle.bits.proofs.Slots.{shl_one}

-- a bit counts itself
ones_bit : (b : ℕ) → b < 2 → ones b ≡ b
unfolding ones
ones_bit zero h = refl
ones_bit (suc zero) h = refl
ones_bit (suc (suc b)) h = absurd (omega arith)

-- the ones of a word below k are those of its bits below k, one by one
pub ones-rank : (n k : ℕ) → ones (n % 2 ^ k) ≡ rank n k
unfolding rank ones
ones-rank n zero = ap ones (let h : n % 1 ≡ 0 = omega arith in h)
ones-rank n (suc k) =
    ap (λ (j : ℕ). ones (n % 2 ^ j)) (sym (add-one k) ∙ add_comm k 1)
    ∙ ap ones (mod-pow-add n 1 k)
    ∙ ones_cat k (n / 2 ^ k % 2 ^ 1) (n % 2 ^ k) (mod-lt n (pow_pos k))
    ∙ add_comm (ones (bit_at n k)) (ones (n % 2 ^ k))
    ∙ ap (λ (x : ℕ). ones (n % 2 ^ k) + x) (ones_bit (bit_at n k) (omega arith))
    ∙ ap (λ (x : ℕ). x + bit_at n k) (ones-rank n k)

-- the code's test of a bit: a shift and a mask
pub bit_test : (n k : ℕ) → bit_and (n / 2 ^ k) 1 ≡ bit_at n k
bit_test n k = and_mask (n / 2 ^ k) 1

-- 1 << k fits, and one less than it is the mask of the k bits below k
pub masked : (n k : ℕ) → k < 32 → bit_and n ((1 * 2 ^ k) % 2 ^ 32 - 1) ≡ n % 2 ^ k
masked n k h = ap (λ (x : ℕ). bit_and n (x - 1)) (shl_one 32 k h) ∙ and_mask n k

pub below-le : (n k : ℕ) → ones (n % 2 ^ k) ≤ k
below-le n k = ones-le k (n % 2 ^ k) (mod-lt n (pow_pos k))
