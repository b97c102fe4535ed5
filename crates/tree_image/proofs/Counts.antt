-- Laws of how many numbers below n pass a test.
use mathlib.Core.Path.{◌≡◌, refl, ap}
use mathlib.Core.Logic.{◌⊎◌, inl, inr}
use mathlib.Core.Bool.{Bool, true, false}
use Prim.Native.Nat.{ℕ, zero, suc, ◌+◌, ◌-◌, ◌≤◌, ◌<◌}
use native.Mathlib.Nat.{eq-or-lt_of_le, le_of_suc-le-suc, not-suc-le-zero, add-zero, add-suc, le_refl, le_step}
use native.Mathlib.Omega.{arith}
use lib.Dec.{ltb}
use borrow.Author.Tests.{ltb-true, ltb-false}
use Rattle.bits.specs.Count.{bit, count}
use Rattle.bits.proofs.Bools.{decided, untrue}

pub count_less : (f : ℕ → Bool) (n i : ℕ) → i < n → f i ≡ true → count f i < count f n
unfolding count
count_less f zero i h e = absurd (not-suc-le-zero h)
count_less f (suc n) i h e = go (eq-or-lt_of_le (le_of_suc-le-suc h)) (count_less f n i)
  where
    go : (i ≡ n) ⊎ (i < n) → (i < n → f i ≡ true → count f i < count f n) → count f i < bit (f n) + count f n
    go (inl q) ih = let t : bit (f n) ≡ 1 = rw q at (ap bit e) in rw q (omega arith)
    go (inr l) ih = omega (arith, ih l e)

-- each place below a count is that of a number that passes
pub count-hit : (f : ℕ → Bool) (n j : ℕ) → j < count f n → (c : ℕ) × (c < n) × (f c ≡ true) × (count f c ≡ j)
unfolding count
count-hit f zero j h = absurd (not-suc-le-zero h)
count-hit f (suc n) j h = go (decided (f n)) (decided (ltb j (count f n))) (count-hit f n j)
  where
    go : (f n ≡ true) ⊎ (f n ≡ false) → (ltb j (count f n) ≡ true) ⊎ (ltb j (count f n) ≡ false) →
        (j < count f n → (c : ℕ) × (c < n) × (f c ≡ true) × (count f c ≡ j))
        → (c : ℕ) × (c < suc n) × (f c ≡ true) × (count f c ≡ j)
    go e (inl l) ih = let r = ih (ltb-true j (count f n) l) in (r.0, omega (arith, r.1), r.2, r.3)
    go (inl e) (inr l) ih = (n, omega arith, e, omega (arith, ltb-false j (count f n) l, ap bit e))
    go (inr e) (inr l) ih = absurd (omega (arith, ltb-false j (count f n) l, ap bit e))

pub count-mono : (f : ℕ → Bool) (i k : ℕ) → count f i ≤ count f (i + k)
unfolding count
count-mono f i zero = rw add-zero (le_refl (count f i))
count-mono f i (suc k) = rw add-suc (omega (arith, count-mono f i k))

pub count-order : (f : ℕ → Bool) (c d : ℕ) → count f c < count f d → c < d
count-order f c d h = go (decided (ltb c d))
  where
    go : (ltb c d ≡ true) ⊎ (ltb c d ≡ false) → c < d
    go (inl t) = ltb-true c d t
    go (inr t) = let l = ltb-false c d t in let e : d + (c - d) ≡ c = omega arith in absurd (omega (arith, rw e at (count-mono f d (c - d))))

pub count-all : (f : ℕ → Bool) (n : ℕ) → ((i : ℕ) → i < n → f i ≡ true) → count f n ≡ n
unfolding count
count-all f zero h = refl
count-all f (suc n) h = omega (arith, count-all f n (λ i l. h i (le_step l)), ap bit (h n (le_refl (suc n))))

-- none from m on
pub count_cut : (f : ℕ → Bool) (m k : ℕ) → ((i : ℕ) → m ≤ i → i < m + k → f i ≡ false) → count f (m + k) ≡ count f m
unfolding count
count_cut f m zero h = rw add-zero refl
count_cut f m (suc k) h = rw add-suc (omega (arith, count_cut f m k (λ i l u. h i l (omega arith)), ap bit (h (m + k) (omega arith) (omega arith))))

pub count_none : (f : ℕ → Bool) (n : ℕ) → ((i : ℕ) → i < n → f i ≡ false) → count f n ≡ 0
unfolding count
count_none f zero h = refl
count_none f (suc n) h = omega (arith, count_none f n (λ i l. h i (le_step l)), ap bit (h n (le_refl (suc n))))

pub count-one : (f : ℕ → Bool) (n x : ℕ) → x < n → f x ≡ true → ((i : ℕ) → i < n → f i ≡ true → i ≡ x) → count f n ≡ 1
unfolding count
count-one f zero x l e u = absurd (not-suc-le-zero l)
count-one f (suc n) x l e u = go (eq-or-lt_of_le {n = x} {m = n} (omega arith)) (λ v. count-one f n x v e (λ i a. u i (le_step a)))
  where
    go : (x ≡ n) ⊎ (x < n) → (x < n → count f n ≡ 1) → bit (f n) + count f n ≡ 1
    go (inl q) ih =
        let t : f n ≡ true = rw q at e in
        omega (arith, ap bit t, count_none f n (λ i a. untrue (f i) (λ o. let z = u i (le_step a) o in omega arith)))
    go (inr v) ih = omega (arith, ih v, ap bit (untrue (f n) (λ o. let z = u n (le_refl (suc n)) o in omega arith)))
