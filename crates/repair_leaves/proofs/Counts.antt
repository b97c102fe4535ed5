-- Loops that count: one number more, and one block of numbers more.
use mathlib.Core.Path.{◌≡◌, refl, ap}
use mathlib.Core.Bool.{Bool, true, false, not, and-false}
use Prim.Native.Nat.{ℕ, zero, suc, ◌+◌, ◌≤◌, ◌<◌, zero-le}
use native.Mathlib.Omega.{arith}
use lib.Dec.{eqb}
use borrow.Author.Tests.{eq-eqb, ne_eqb}
use Rattle.bits.specs.Count.{bit, count}
use Rattle.repair_leaves.specs.Leaves.{off_plan, off_zero, CountIs}

-- one number more
module _ (f : ℕ → Bool) (m j : ℕ) (h : m ≡ count f j) where
  count_yes : f j ≡ true → m + 1 ≡ count f (j + 1)
  unfolding count
  count_yes e = let z : j + 1 ≡ suc j = omega arith in rw z (omega (arith, ap bit e))

  count-off : f j ≡ false → m ≡ count f (j + 1)
  unfolding count
  count-off e = let z : j + 1 ≡ suc j = omega arith in rw z (omega (arith, ap bit e))

pub count-start : (f : ℕ → Bool) → 0 ≡ count f 0
unfolding count
count-start f = refl

-- the loop: m of the first j numbers pass the test
pub record Counting (f : ℕ → Bool) (n m j : ℕ) : Type 0 where
  pub within : j ≤ n
  pub few : m ≤ j
  pub is : m ≡ count f j

pub counting-none : {f : ℕ → Bool} {n : ℕ} → Counting f n 0 0
counting-none {f} = record { within = zero-le; few = zero-le; is = count-start f }

module _ {f : ℕ → Bool} {n m j : ℕ} (c : Counting f n m j) where
  pub counting-hit : j < n → f j ≡ true → Counting f n (m + 1) (j + 1)
  counting-hit t e = record { within = omega arith; few = let l = c.few in omega arith; is = count_yes f m j c.is e }

  pub counting-miss : j < n → f j ≡ false → Counting f n m (j + 1)
  counting-miss t e = record { within = omega arith; few = let l = c.few in omega arith; is = count-off f m j c.is e }

  pub counting-all : n ≤ j → CountIs m f n
  counting-all t = let e : j ≡ n = omega (arith, c.within) in record { is = rw e at c.is; few = omega (arith, c.few) }

-- a block of numbers more
pub count_add : (f : ℕ → Bool) (a n : ℕ) → count f (a + n) ≡ count f a + count (λ i. f (a + i)) n
unfolding count
count_add f a zero = let z : a + 0 ≡ a = omega arith in rw z (omega arith)
count_add f a (suc n) = let z : a + suc n ≡ suc (a + n) = omega arith in rw z (omega (arith, count_add f a n))

-- a cell x beside its plan w
module _ (w x : ℕ) where
  pub plan-off : (w ≡ 0 → ⊥) → (x ≡ w → ⊥) → off_plan w x ≡ true
  plan-off a b = rw (ne_eqb _ _ a, ne_eqb _ _ b)

  pub plan-same : x ≡ w → off_plan w x ≡ false
  plan-same b = rw (eq-eqb _ _ b) (and-false (not (eqb w 0)))

  pub plan-node : w ≡ 0 → off_plan w x ≡ false
  plan-node a = rw (eq-eqb _ _ a)

-- and beside 0
pub zero-off : (x : ℕ) → (x ≡ 0 → ⊥) → off_zero x ≡ true
zero-off x a = rw (ne_eqb _ _ a)

pub zero_same : (x : ℕ) → x ≡ 0 → off_zero x ≡ false
zero_same x a = rw (eq-eqb _ _ a)
