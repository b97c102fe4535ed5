-- How many numbers below n pass a test, and that two tests that match one to one are passed as often.
use mathlib.Core.Path.{◌≡◌, refl, sym, ◌∙◌, ap}
use mathlib.Core.Logic.{◌⊎◌, inl, inr}
use mathlib.Core.Bool.{Bool, true, false, not, ◌&&◌, and-true, and-false}
use Prim.Native.Nat.{ℕ, zero, suc, ◌+◌, ◌-◌, ◌≤◌, ◌<◌, zero-le}
use native.Mathlib.Nat.{not-suc-le-zero, le_antisymm, eq-or-lt_of_le, le_of_suc-le-suc, le_step, le_refl}
use native.Mathlib.Omega.{arith}
use lib.Dec.{eqb}
use borrow.Author.Tests.{eq-eqb, ne_eqb}
use Rattle.bits.specs.Count.{bit, count}
use Rattle.bits.proofs.Bools.{decided}

pub count-ext : (f g : ℕ → Bool) (n : ℕ) → ((i : ℕ) → i < n → f i ≡ g i) → count f n ≡ count g n
unfolding count
count-ext f g zero h = refl
count-ext f g (suc n) h = rw (h n (le_refl (suc n)), count-ext f g n (λ i l. h i (le_step l)))

-- f, but at j
abbrev pub without : (ℕ → Bool) → ℕ → ℕ → Bool
without f j i = f i && not (eqb i j)

pub without_other : (f : ℕ → Bool) (j i : ℕ) → (i ≡ j → ⊥) → without f j i ≡ f i
without_other f j i h = rw (ne_eqb i j h) (and-true (f i))

pub without-same : (f : ℕ → Bool) (j : ℕ) → without f j j ≡ false
without-same f j = rw (eq-eqb j j refl) (and-false (f j))

pub count-without : (f : ℕ → Bool) (j n : ℕ) → j < n → f j ≡ true → count f n ≡ suc (count (without f j) n)
unfolding count
count-without f j zero h e = absurd (not-suc-le-zero h)
count-without f j (suc n) h e = go (eq-or-lt_of_le (le_of_suc-le-suc h)) (count-without f j n)
  where
    go : (j ≡ n) ⊎ (j < n) → (j < n → f j ≡ true → count f n ≡ suc (count (without f j) n)) → bit (f n) + count f n ≡ suc
        (bit (without f j n) + count (without f j) n)
    go (inl q) ih =
        let here : f n ≡ true = rw q at e in
        let gone : without f j n ≡ false = rw q (without-same f n) in
        omega (arith, ap bit here, ap bit gone, count-ext (without f j) f n (λ i l. without_other f j i (λ (p : i ≡ j). omega arith)))
    go (inr l) ih = omega (arith, ih l e, ap bit (without_other f j n (λ (p : n ≡ j). omega arith)))

-- f takes the numbers below m that pass P to different numbers below n that pass Q
pub record Into (P Q : ℕ → Bool) (f : ℕ → ℕ) (m n : ℕ) : Type 0 where
  pub lands : (x : ℕ) → x < m → P x ≡ true → f x < n
  pub passes : (x : ℕ) → x < m → P x ≡ true → Q (f x) ≡ true
  pub apart : (x y : ℕ) → x < m → y < m → P x ≡ true → P y ≡ true → f x ≡ f y → x ≡ y

into_less : (P Q : ℕ → Bool) (f : ℕ → ℕ) (m n : ℕ) → Into P Q f (suc m) n → Into P Q f m n
into_less P Q f m n i = record {
  lands = λ x l. i.lands x (le_step l);
  passes = λ x l. i.passes x (le_step l);
  apart = λ x y l l'. i.apart x y (le_step l) (le_step l');
}

into-rest : (P Q : ℕ → Bool) (f : ℕ → ℕ) (m n : ℕ) → Into P Q f (suc m) n → P m ≡ true → Into P (without Q (f m)) f m n
into-rest P Q f m n i e = record {
  lands = λ x l. i.lands x (le_step l);
  passes = λ x l p. without_other Q (f m) (f x) (λ (q : f x ≡ f m). let z = i.apart x m (le_step l) (le_refl (suc m)) p e q in omega arith)
      ∙ i.passes x (le_step l) p;
  apart = λ x y l l'. i.apart x y (le_step l) (le_step l');
}

pub count-into : (P Q : ℕ → Bool) (f : ℕ → ℕ) (m n : ℕ) → Into P Q f m n → count P m ≤ count Q n
unfolding count
count-into P Q f zero n i = zero-le
count-into P Q f (suc m) n i = go (decided (P m)) (count-into P Q f m n (into_less P Q f m n i))
    (λ e. count-into P (without Q (f m)) f m n (into-rest P Q f m n i e))
  where
    go : (P m ≡ true) ⊎ (P m ≡ false) → count P m ≤ count Q n → (P m ≡ true → count P m ≤ count (without Q (f m)) n) → bit (P m) + count P m ≤ count Q n
    go (inl e) h k = omega (arith, ap bit e, k e, count-without Q (f m) n (i.lands m (le_refl (suc m)) e) (i.passes m (le_refl (suc m)) e))
    go (inr e) h k = omega (arith, ap bit e)

-- f and g match the numbers below m that pass P with those below n that pass Q
pub record Matched (P Q : ℕ → Bool) (f g : ℕ → ℕ) (m n : ℕ) : Type 0 where
  pub there : (x : ℕ) → x < m → P x ≡ true → (f x < n) × (Q (f x) ≡ true) × (g (f x) ≡ x)
  pub back : (y : ℕ) → y < n → Q y ≡ true → (g y < m) × (P (g y) ≡ true) × (f (g y) ≡ y)

half : (P Q : ℕ → Bool) (f g : ℕ → ℕ) (m n : ℕ) → ((x : ℕ) → x < m → P x ≡ true → (f x < n) × (Q (f x) ≡ true) × (g (f x) ≡ x)) → count P m ≤ count Q n
half P Q f g m n h = count-into P Q f m n (record {
  lands = λ x l p. (h x l p).0;
  passes = λ x l p. (h x l p).1;
  apart = λ x y l l' p p' e. sym (h x l p).2 ∙ ap g e ∙ (h y l' p').2;
})

pub count-matched : (P Q : ℕ → Bool) (f g : ℕ → ℕ) (m n : ℕ) → Matched P Q f g m n → count P m ≡ count Q n
count-matched P Q f g m n h = le_antisymm (half P Q f g m n h.there) (half Q P g f n m h.back)

-- the first number apart from the others
pub count-front : (f : ℕ → Bool) (n : ℕ) → count f (suc n) ≡ bit (f 0) + count (λ i. f (suc i)) n
unfolding count
count-front f zero = refl
count-front f (suc n) = omega (arith, count-front f n)
