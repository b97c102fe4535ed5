-- Laws of the first bits of an address. Callers of `cut` rest on these, and not on how it is computed.
use mathlib.Core.Path.{◌≡◌, refl, sym, ap, ◌∙◌}
use Prim.Native.Nat.{ℕ, suc, ◌+◌, ◌-◌, ◌*◌, ◌/◌, ◌%◌, ◌^◌, ◌≤◌, ◌<◌}
use native.Mathlib.Nat.{
  one-mul,
  add-mul,
  mul_assoc,
  zero-mul,
  mod-eq_of_lt,
  div-eq_of_lt,
  div-mul-le_self,
  lt-div-mul-add,
  div-eq_of_lt-le,
  mul-le-mul_right,
  div-div-eq-div-mul,
  pow-succ',
}
use native.Mathlib.Omega.{arith}
use lib.Pow.{pow-lt, pow_pos, pow-add, shr_lt, shr_mono, shl-shr, shr-shr}
use Rattle.bits.specs.Slot.{slot, cut}

-- a one that is shifted left, not out
pub shl_one : (w k : ℕ) → k < w → 1 * 2 ^ k % 2 ^ w ≡ 2 ^ k
shl_one w k h = ap (λ (x : ℕ). x % 2 ^ w) (one-mul (2 ^ k)) ∙ mod-eq_of_lt (pow-lt h)

pub slot-zero : (p a : ℕ) → a < 2 ^ 32 → p ≡ 0 → slot p a ≡ 0
slot-zero p a h e = ap (λ (m : ℕ). a / 2 ^ (32 - m)) e ∙ div-eq_of_lt h

pub slot_lt : (p a : ℕ) → p ≤ 32 → a < 2 ^ 32 → slot p a < 2 ^ p
slot_lt p a h l = shr_lt p (32 - p) (rw sum l)
  where
    sum : p + (32 - p) ≡ 32
    sum = omega arith

-- the slot of a level k lower holds it
pub slot-up : (p k a : ℕ) → p + k ≤ 32 → slot (p + k) a / 2 ^ k ≡ slot p a
slot-up p k a h = shr-shr a (32 - (p + k)) k ∙ ap (λ (n : ℕ). a / 2 ^ n) (omega arith)

pub half_pow : (a k : ℕ) → a / 2 / 2 ^ k ≡ a / 2 ^ suc k
half_pow a k = div-div-eq-div-mul a 2 (2 ^ k) ∙ ap (λ (n : ℕ). a / n) (sym (pow-succ' 2 k))

pub cut-zero : (l a : ℕ) → a < 2 ^ 32 → l ≡ 0 → cut l a ≡ 0
unfolding cut
cut-zero l a h e = ap (λ (x : ℕ). x * 2 ^ (32 - l)) (slot-zero l a h e) ∙ zero-mul (2 ^ (32 - l))

pub cut-is : (l a : ℕ) → cut l a ≡ slot l a * 2 ^ (32 - l)
unfolding cut
cut-is l a = refl

pub cut-le : (l a : ℕ) → cut l a ≤ a
unfolding cut
cut-le l a = div-mul-le_self a (2 ^ (32 - l))

pub cut-gt : (l a : ℕ) → a < cut l a + 2 ^ (32 - l)
unfolding cut
cut-gt l a = lt-div-mul-add (pow_pos (32 - l))

-- no bit comes after the 32nd
pub cut-over : (l a : ℕ) → 32 ≤ l → cut l a ≡ a
unfolding cut
cut-over l a h =
    let e : 32 - l ≡ 0 = omega arith in
    ap (λ (x : ℕ). a / 2 ^ x * 2 ^ x) e ∙ omega arith

-- an address that is clear after l bits is clear after more
pub cut-more : (l m a : ℕ) → l ≤ m → m ≤ 32 → cut l a ≡ a → cut m a ≡ a
unfolding cut
cut-more l m a h u e =
    let p : 2 ^ (32 - l) ≡ 2 ^ (m - l) * 2 ^ (32 - m) = ap (λ (x : ℕ). 2 ^ x) (omega arith) ∙ pow-add 2 (m - l) (32 - m) in
    let q : a / 2 ^ (32 - l) * 2 ^ (m - l) * 2 ^ (32 - m) ≡ a = mul_assoc _ _ _ ∙ ap (λ (x : ℕ). a / 2 ^ (32 - l) * x) (sym p) ∙ e in
    ap (λ (x : ℕ). x / 2 ^ (32 - m) * 2 ^ (32 - m)) (sym q) ∙ ap (λ (x : ℕ). x * 2 ^ (32 - m)) (shl-shr _ (32 - m)) ∙ q

-- bits that were cut stay so
pub cut-cut : (l a : ℕ) → cut l (cut l a) ≡ cut l a
unfolding cut
cut-cut l a = ap (λ (x : ℕ). x * 2 ^ (32 - l)) (shl-shr _ (32 - l))

-- the slot of an address is that of its first bits
pub slot-cut : (l a : ℕ) → slot l (cut l a) ≡ slot l a
unfolding cut
slot-cut l a = shl-shr (a / 2 ^ (32 - l)) (32 - l)

cut-grows : (m : ℕ) {a b : ℕ} → a ≤ b → cut m a ≤ cut m b
unfolding cut
cut-grows m h = mul-le-mul_right (2 ^ (32 - m)) (shr_mono (32 - m) h)

-- fewer bits of an address are less
pub cut-mono : (l m a : ℕ) → l ≤ m → m ≤ 32 → cut l a ≤ cut m a
cut-mono l m a h u = omega (arith, cut-more l m (cut l a) h u (cut-cut l a), cut-grows m (cut-le l a))

-- an address between a prefix and its end has that prefix
pub cut_in : (l p a : ℕ) → cut l p ≡ p → p ≤ a → a < p + 2 ^ (32 - l) → cut l a ≡ p
unfolding cut
cut_in l p a e h u =
    let S = 2 ^ (32 - l) in
    let q = p / S in
    let d : (q + 1) * S ≡ q * S + S = add-mul q 1 S ∙ ap (λ (x : ℕ). q * S + x) (one-mul S) in
    ap (λ (x : ℕ). x * S) (div-eq_of_lt-le S {m = a} (omega arith) (omega arith)) ∙ e

-- two clear prefixes of one length are told apart by their slots
pub cut-slot : (l a p : ℕ) → cut l p ≡ p → slot l a ≡ slot l p → cut l a ≡ p
unfolding cut
cut-slot l a p e h = ap (λ (x : ℕ). x * 2 ^ (32 - l)) h ∙ e

pub slot_of : (l a p : ℕ) → cut l a ≡ p → slot l a ≡ slot l p
slot_of l a p e = sym (slot-cut l a) ∙ ap (slot l) e
