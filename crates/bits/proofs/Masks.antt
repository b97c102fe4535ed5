-- The mask of a length, and which bits of an address are left under it.
use mathlib.Core.Path.{◌≡◌, refl, sym, ◌∙◌, ap}
use mathlib.Core.Logic.{◌⊎◌, inl, inr}
use mathlib.Core.Bool.{Bool, true, false, cond}
use Prim.Native.Nat.{ℕ, suc, ◌+◌, ◌-◌, ◌*◌, ◌/◌, ◌%◌, ◌^◌, ◌≤◌, ◌<◌}
use native.Mathlib.Nat.{mul_assoc, mod-eq_of_lt}
use native.Mathlib.Omega.{arith}
use borrow.Author.Tests.{leb-true, leb-false}
use lib.Bits.{bit_and, and_high}
use lib.Dec.{leb}
use lib.Pow.{pow_pos, pow_mono, pow-add, shr_lt, shr-shr, shl-shr, low, high, ones_lt, ones_split, high_ones}
use Rattle.bits.specs.Bit.{bit_at}
use Rattle.bits.specs.Count.{bit}
use Rattle.bits.specs.Slot.{cut, mask}
use Rattle.bits.proofs.Bools.{decided}

pub mask-zero : (l : ℕ) → l ≡ 0 → 0 ≡ mask l
unfolding mask
mask-zero l e = rw e

-- 32 ones, shifted: those that are shifted out are lost
pub mask-shl : (l : ℕ) → l ≤ 32 → 4294967295 * 2 ^ (32 - l) % 2 ^ 32 ≡ mask l
unfolding mask
mask-shl l h =
    let some = pow_pos (32 - l) in
    let most : 2 ^ (32 - l) ≤ 2 ^ 32 = pow_mono {i = 32 - l} {j = 32} (omega arith) in
    let e : 4294967295 * 2 ^ (32 - l) ≡ (2 ^ (32 - l) - 1) * 2 ^ 32 + (2 ^ 32 - 2 ^ (32 - l)) = omega arith in
    ap (λ (x : ℕ). x % 2 ^ 32) e ∙ low (2 ^ (32 - l) - 1) 32 (omega arith)

-- an address under the mask of a length is cut to it
pub cut-mask : (l a m : ℕ) → l ≤ 32 → a < 2 ^ 32 → m ≡ mask l → bit_and a m ≡ cut l a
unfolding mask cut
cut-mask l a m h u e =
    let s : l + (32 - l) ≡ 32 = omega arith in
    ap (bit_and a) (e ∙ ap (λ (x : ℕ). 2 ^ x - 2 ^ (32 - l)) (sym s)) ∙ and_high a l (32 - l)
    ∙ ap (λ (x : ℕ). x * 2 ^ (32 - l)) (mod-eq_of_lt (shr_lt l (32 - l) (rw s u)))

even : (n j : ℕ) → n * 2 ^ (j + 1) % 2 ≡ 0
even n j =
    let e : n * 2 ^ (j + 1) ≡ n * 2 ^ j * 2 = ap (λ (x : ℕ). n * x) (pow-add 2 j 1) ∙ sym (mul_assoc n (2 ^ j) 2) in
    ap (λ (x : ℕ). x % 2) e ∙ omega arith

-- what is shifted to the left by s has no bit below s
bits_below : (n s k : ℕ) → k < s → bit_at (n * 2 ^ s) k ≡ 0
bits_below n s k h =
    let e : 2 ^ s ≡ 2 ^ (s - suc k + 1) * 2 ^ k = ap (λ (x : ℕ). 2 ^ x) (omega arith) ∙ pow-add 2 (s - suc k + 1) k in
    let q : n * 2 ^ s ≡ n * 2 ^ (s - suc k + 1) * 2 ^ k = ap (λ (x : ℕ). n * x) e ∙ sym (mul_assoc n _ (2 ^ k)) in
    ap (λ (x : ℕ). x / 2 ^ k % 2) q ∙ ap (λ (x : ℕ). x % 2) (shl-shr _ k) ∙ even n (s - suc k)

-- and its other bits are those that were there
bits_above : (a s k : ℕ) → s ≤ k → bit_at (a / 2 ^ s * 2 ^ s) k ≡ bit_at a k
bits_above a s k h =
    let e : s + (k - s) ≡ k = omega arith in
    let by : (x : ℕ) → x / 2 ^ k ≡ x / 2 ^ s / 2 ^ (k - s) = λ x. ap (λ (n : ℕ). x / 2 ^ n) (sym e) ∙ sym (shr-shr x s (k - s)) in
    ap (λ (x : ℕ). x % 2) (by _ ∙ ap (λ (x : ℕ). x / 2 ^ (k - s)) (shl-shr (a / 2 ^ s) s) ∙ sym (by a))

-- The cut of any address: its first l bits stand as they were, and all others are zero.
pub cut-bits : (l a k : ℕ) → bit_at (cut l a) k ≡ cond (leb (32 - l) k) (bit_at a k) 0
unfolding cut
cut-bits l a k = go (decided (leb (32 - l) k))
  where
    go : (leb (32 - l) k ≡ true) ⊎ (leb (32 - l) k ≡ false) → bit_at (a / 2 ^ (32 - l) * 2 ^ (32 - l)) k ≡ cond (leb (32 - l) k) (bit_at a k) 0
    go (inl e) = rw e (bits_above a (32 - l) k (leb-true _ _ e))
    go (inr e) = rw e (bits_below (a / 2 ^ (32 - l)) (32 - l) k (leb-false _ _ e))

-- The mask is the cut of 32 ones.
mask-cut : (l : ℕ) → l ≤ 32 → mask l ≡ cut l (2 ^ 32 - 1)
unfolding mask cut
mask-cut l h =
    let s : l + (32 - l) ≡ 32 = omega arith in
    let e : 2 ^ 32 - 1 ≡ (2 ^ l - 1) * 2 ^ (32 - l) + (2 ^ (32 - l) - 1) = ap (λ (x : ℕ). 2 ^ x - 1) (sym s) ∙ ones_split l (32 - l) in
    let q : (2 ^ 32 - 1) / 2 ^ (32 - l) ≡ 2 ^ l - 1 = ap (λ (x : ℕ). x / 2 ^ (32 - l)) e ∙ high (2 ^ l - 1) (32 - l) (ones_lt (32 - l)) in
    ap (λ (x : ℕ). 2 ^ x - 2 ^ (32 - l)) (sym s) ∙ high_ones l (32 - l) ∙ ap (λ (x : ℕ). x * 2 ^ (32 - l)) (sym q)

all_ones : (k : ℕ) → k < 32 → bit_at (2 ^ 32 - 1) k ≡ 1
all_ones k h =
    let s : 32 ≡ 31 - k + 1 + k = omega arith in
    let e : 2 ^ 32 - 1 ≡ (2 ^ (31 - k + 1) - 1) * 2 ^ k + (2 ^ k - 1) = ap (λ (x : ℕ). 2 ^ x - 1) s ∙ ones_split (31 - k + 1) k in
    let q : (2 ^ 32 - 1) / 2 ^ k ≡ 2 ^ (31 - k + 1) - 1 = ap (λ (x : ℕ). x / 2 ^ k) e ∙ high _ k (ones_lt k) in
    let t : 2 ^ (31 - k + 1) ≡ 2 ^ (31 - k) * 2 = pow-add 2 (31 - k) 1 in
    ap (λ (x : ℕ). x % 2) (q ∙ ap (λ (x : ℕ). x - 1) t) ∙ omega (arith, pow_pos (31 - k))

-- The mask's rule: bit k, counted from the least significant, is one exactly where it is among the first l bits of 32.
pub mask-bits : (l k : ℕ) → l ≤ 32 → k < 32 → bit_at (mask l) k ≡ bit (leb (32 - l) k)
mask-bits l k h u =
    ap (λ (x : ℕ). bit_at x k) (mask-cut l h) ∙ cut-bits l (2 ^ 32 - 1) k
    ∙ ap (λ (x : ℕ). cond (leb (32 - l) k) x 0) (all_ones k u) ∙ as-bit (leb (32 - l) k)
  where
    as-bit : (b : Bool) → cond b 1 0 ≡ bit b
    as-bit true = refl
    as-bit false = refl
