-- The bits of a packed number, and the ones below a bit.
use mathlib.Core.Path.{◌≡◌, refl, sym, ◌∙◌, ap, ap₂}
use mathlib.Core.Logic.{◌⊎◌, inl, inr}
use mathlib.Core.Bool.{Bool, true, false}
use Prim.Native.Nat.{ℕ, zero, suc, ◌+◌, ◌-◌, ◌*◌, ◌/◌, ◌%◌, ◌^◌, ◌<◌}
use native.Mathlib.Nat.{eq-or-lt_of_le, le_of_suc-le-suc, not-suc-le-zero, pow-suc, mod-eq_of_lt, mod-lt, mul_assoc, add_assoc, add-mul, le_refl, le_step}
use native.Mathlib.Omega.{arith}
use lib.Pow.{pow_pos, pow-add, high, shr-shr, split}
use lib.Count.{ones}
use Rattle.bits.specs.Bit.{bit_at, rank, packed_bits}
use Rattle.bits.specs.Count.{bit, count}
use Rattle.bits.proofs.Ones.{ones-rank}

bit-lt : (b : Bool) → bit b < 2
bit-lt true = omega arith
bit-lt false = omega arith

pub packed_lt : (f : ℕ → Bool) (n : ℕ) → packed_bits f n < 2 ^ n
unfolding packed_bits
packed_lt f zero = omega arith
packed_lt f (suc n) = go (f n) (packed_lt f n)
  where
    two : 2 ^ suc n ≡ 2 ^ n + 2 ^ n
    two = pow-suc 2 n ∙ omega arith

    go : (b : Bool) → packed_bits f n < 2 ^ n → bit b * 2 ^ n + packed_bits f n < 2 ^ suc n
    go true h = rw two (omega arith)
    go false h = rw two (omega arith)

-- a bit below a seam is the low part's, and the bit at it the high part's
bit-low : (b n k x : ℕ) → k < n → bit_at (b * 2 ^ n + x) k ≡ bit_at x k
bit-low b n k x h =
    let e : n ≡ suc (n - suc k) + k = omega arith in
    let z : ℕ = n - suc k in
    ap (λ (y : ℕ). (b * 2 ^ y + x) / 2 ^ k % 2) e ∙ cut z
  where
    cut : (z : ℕ) → (b * 2 ^ (suc z + k) + x) / 2 ^ k % 2 ≡ x / 2 ^ k % 2
    cut z =
        let e : b * 2 ^ (suc z + k) + x ≡ (b * 2 ^ suc z + x / 2 ^ k) * 2 ^ k + x % 2 ^ k =
        ap₂ (λ (u v : ℕ). b * u + v) (pow-add 2 (suc z) k) (sym (split x k))
        ∙ ap (λ (u : ℕ). u + (x / 2 ^ k * 2 ^ k + x % 2 ^ k)) (sym (mul_assoc b (2 ^ suc z) (2 ^ k)))
        ∙ sym (add_assoc (b * 2 ^ suc z * 2 ^ k) (x / 2 ^ k * 2 ^ k) (x % 2 ^ k))
        ∙ ap (λ (u : ℕ). u + x % 2 ^ k) (sym (add-mul (b * 2 ^ suc z) (x / 2 ^ k) (2 ^ k))) in
        let t : b * 2 ^ suc z ≡ b * 2 ^ z * 2 = ap (λ (u : ℕ). b * u) (pow-suc 2 z) ∙ sym (mul_assoc b (2 ^ z) 2) in
        ap (λ (u : ℕ). u / 2 ^ k % 2) e
        ∙ ap (λ (u : ℕ). u % 2) (high (b * 2 ^ suc z + x / 2 ^ k) k (mod-lt x (pow_pos k)))
        ∙ ap (λ (u : ℕ). (u + x / 2 ^ k) % 2) t ∙ omega arith

pub packed-bit : (f : ℕ → Bool) (n k : ℕ) → k < n → bit_at (packed_bits f n) k ≡ bit (f k)
unfolding packed_bits
packed-bit f zero k h = absurd (not-suc-le-zero h)
packed-bit f (suc n) k h = go (eq-or-lt_of_le (le_of_suc-le-suc h)) (packed-bit f n k)
  where
    go : (k ≡ n) ⊎ (k < n) → (k < n → bit_at (packed_bits f n) k ≡ bit (f k)) → bit_at (bit (f n) * 2 ^ n + packed_bits f n) k ≡ bit (f k)
    go (inl q) ih = rw q (ap (λ (x : ℕ). x % 2) (high (bit (f n)) n (packed_lt f n)) ∙ mod-eq_of_lt (bit-lt (f n)))
    go (inr l) ih = bit-low (bit (f n)) n k (packed_bits f n) l ∙ ih l

-- the ones below k of a number whose bits are a test's
pub rank-count : (w : ℕ) (f : ℕ → Bool) (k : ℕ) → ((i : ℕ) → i < k → bit_at w i ≡ bit (f i)) → ones (w % 2 ^ k) ≡ count f k
unfolding rank count
rank-count w f k h = ones-rank w k ∙ go k h
  where
    go : (k : ℕ) → ((i : ℕ) → i < k → bit_at w i ≡ bit (f i)) → rank w k ≡ count f k
    go zero h = refl
    go (suc k) h = omega (arith, go k (λ i l. h i (le_step l)), h k (le_refl (suc k)))

-- the same for the upper half
pub upper-count : (w : ℕ) (f : ℕ → Bool) (k : ℕ) → ((i : ℕ) → i < k → bit_at w (16 + i) ≡ bit (f i)) → ones (w / 2 ^ 16 % 2 ^ k) ≡ count f k
upper-count w f k h = rank-count (w / 2 ^ 16) f k (λ i l. ap (λ (x : ℕ). x % 2) (shr-shr w 16 i) ∙ h i l)
