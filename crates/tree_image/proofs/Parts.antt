-- Laws of lists by their parts. The rank lemma: what is picked at a number stands after as many as were picked below it, and
-- what an element gives stands after all that comes from the elements before it.
use mathlib.Core.Path.{◌≡◌, refl, sym, ◌∙◌, ap}
use mathlib.Core.Logic.{◌⊎◌, inl, inr}
use mathlib.Core.Bool.{Bool, true, false, cond}
use mathlib.Core.List.{List, [], ◌∷◌, ◌++◌, append_assoc}
use Prim.Native.Nat.{ℕ, zero, suc, ◌+◌, ◌-◌, ◌≤◌, ◌<◌}
use native.Mathlib.Nat.{eq-or-lt_of_le, le_of_suc-le-suc, not-suc-le-zero, zero-add, add_assoc, le_refl, le_step}
use native.Mathlib.Numerals.{add-one}
use native.Mathlib.Omega.{arith}
use lib.Dec.{ltb}
use lib.ListN.{length, get_or, take, length-append, get_or-append}
use lib.Seq.{get_or-append-add, get_or_at, take-length}
use borrow.Author.Tests.{ltb-true, ltb-false}
use Rattle.bits.proofs.Bools.{decided}
use Rattle.bits.specs.Count.{bit, count}
use Rattle.tree_image.specs.Parts.{picked, gather, before}
use Rattle.tree_image.proofs.Counts.{count_less}

-- ---- what passes a test, in order

pub picked-length : {A : Type 0} (f : ℕ → Bool) (g : ℕ → A) (n : ℕ) → length (picked f g n) ≡ count f n
unfolding picked count
picked-length f g zero = refl
picked-length f g (suc n) = length-append (picked f g n) (cond (f n) (g n ∷ []) []) ∙ omega (arith, picked-length f g n, one (f n))
  where
    one : (b : Bool) → length (cond b (g n ∷ []) []) ≡ bit b
    one true = refl
    one false = refl

-- the place of i among them is the count below i
pub picked-at : {A : Type 0} (f : ℕ → Bool) (g : ℕ → A) (n i : ℕ) (d : A) → i < n → f i ≡ true → get_or (picked f g n) (count f i) d ≡ g i
unfolding picked
picked-at f g zero i d h e = absurd (not-suc-le-zero h)
picked-at {A} f g (suc n) i d h e = go (eq-or-lt_of_le (le_of_suc-le-suc h)) (picked-at f g n i d)
  where
    go : (i ≡ n) ⊎ (i < n) → (i < n → f i ≡ true → get_or (picked f g n) (count f i) d ≡ g i) → get_or (picked f g n ++ cond (f n) (g n ∷ []) [])
        (count f i) d ≡ g i
    go (inl q) ih = let t : f n ≡ true = rw q at e in rw (q, t) (get_or_at (picked f g n) (g n) [] d (count f n) (picked-length f g n))
    go (inr l) ih = get_or-append (picked f g n) (cond (f n) (g n ∷ []) []) d (count f i) (rw picked-length (count_less f n i l e)) ∙ ih l e

pub picked_none : {A : Type 0} (f : ℕ → Bool) (g : ℕ → A) (n : ℕ) → ((i : ℕ) → i < n → f i ≡ false) → picked f g n ≡ []
unfolding picked
picked_none f g zero h = refl
picked_none f g (suc n) h = rw (picked_none f g n (λ i l. h i (le_step l)), h n (le_refl (suc n)))

-- ---- what each element gives, end to end

module _ {A : Type 0} {B : Type 0} (F : A → List B) where
  pub gather_append : (xs ys : List A) → gather F (xs ++ ys) ≡ gather F xs ++ gather F ys
  unfolding gather
  gather_append [] ys = refl
  gather_append (x ∷ xs) ys = ap (λ (l : List B). F x ++ l) (gather_append xs ys) ∙ sym (append_assoc (F x) (gather F xs) (gather F ys))

  pub gather-at : (xs : List A) (i j : ℕ) (a : A) (d : B) → i < length xs → j < length (F (get_or xs i a))
      → (before F xs i + j < length (gather F xs)) × (get_or (gather F xs) (before F xs i + j) d ≡ get_or (F (get_or xs i a)) j d)
  unfolding gather before
  gather-at [] i j a d h l = absurd (not-suc-le-zero h)
  gather-at (x ∷ xs) zero j a d h l = (
    rw (zero-add, length-append) (omega arith),
    ap (λ (k : ℕ). get_or (F x ++ gather F xs) k d) (zero-add j) ∙ get_or-append (F x) (gather F xs) d j l,
  )
  gather-at (x ∷ xs) (suc i) j a d h l =
      let ih = gather-at xs i j a d (le_of_suc-le-suc h) l in (
        rw length-append (omega (arith, ih.0)),
        ap (λ (k : ℕ). get_or (F x ++ gather F xs) k d) (add_assoc (length (F x)) (before F xs i) j) ∙ get_or-append-add (F x) (gather F xs)
            (before F xs i + j) d ∙ ih.1,
      )

  pub before-zero : (xs : List A) → before F xs 0 ≡ 0
  unfolding before
  before-zero [] = refl
  before-zero (x ∷ xs) = refl

  -- the part from one element more
  pub before-next : (xs : List A) (i : ℕ) (a : A) → i < length xs → before F xs (i + 1) ≡ before F xs i + length (F (get_or xs i a))
  unfolding before
  before-next [] i a h = absurd (not-suc-le-zero h)
  before-next (x ∷ xs) zero a h = one xs
    where
      one : (ys : List A) → length (F x) + before F ys 0 ≡ 0 + length (F x)
      one [] = omega arith
      one (y ∷ ys) = omega arith
  before-next (x ∷ xs) (suc i) a h = rw add-one (ap (λ (k : ℕ). length (F x) + before F xs k) (sym (add-one i)) ∙ omega
      (arith, before-next xs i a (le_of_suc-le-suc h)))

  pub before-le : (xs : List A) (i : ℕ) → before F xs i ≤ length (gather F xs)
  unfolding before gather
  before-le [] i = omega arith
  before-le (x ∷ xs) zero = omega arith
  before-le (x ∷ xs) (suc i) = rw length-append (omega (arith, before-le xs i))

  pub before-take : (xs : List A) (i : ℕ) → length (gather F (take i xs)) ≡ before F xs i
  unfolding before gather
  before-take [] zero = refl
  before-take [] (suc i) = refl
  before-take (x ∷ xs) zero = refl
  before-take (x ∷ xs) (suc i) = length-append (F x) (gather F (take i xs)) ∙ ap (λ (k : ℕ). length (F x) + k) (before-take xs i)

  -- all of them
  pub before-all : (xs : List A) → before F xs (length xs) ≡ length (gather F xs)
  before-all xs = sym (before-take xs (length xs)) ∙ ap (λ (ys : List A). length (gather F ys)) (take-length xs)

  pub before-mono : (xs : List A) (i j : ℕ) → i ≤ j → before F xs i ≤ before F xs j
  unfolding before
  before-mono [] i j h = omega arith
  before-mono (x ∷ xs) zero j h = omega arith
  before-mono (x ∷ xs) (suc i) zero h = absurd (not-suc-le-zero h)
  before-mono (x ∷ xs) (suc i) (suc j) h = omega (arith, before-mono xs i j (le_of_suc-le-suc h))

-- a place in what is gathered is one of some element
pub gather-split : {A : Type 0} {B : Type 0} (F : A → List B) (xs : List A) (a : A) (j : ℕ) → j < length (gather F xs)
    → (i : ℕ) × (r : ℕ) × (i < length xs) × (r < length (F (get_or xs i a))) × (before F xs i + r ≡ j)
unfolding gather before
gather-split F [] a j h = absurd (not-suc-le-zero h)
gather-split F (x ∷ xs) a j h = go (decided (ltb j (length (F x)))) (gather-split F xs a (j - length (F x)))
  where
    go : (ltb j (length (F x)) ≡ true) ⊎ (ltb j (length (F x)) ≡ false)
        → (j - length (F x) < length (gather F xs) → (i : ℕ) × (r : ℕ) × (i < length xs) × (r < length (F (get_or xs i a))) ×
        (before F xs i + r ≡ j - length (F x)))
        → (i : ℕ) × (r : ℕ) × (i < suc (length xs)) × (r < length (F (get_or (x ∷ xs) i a))) × (before F (x ∷ xs) i + r ≡ j)
    go (inl t) ih = (0, j, omega arith, ltb-true j (length (F x)) t, omega arith)
    go (inr t) ih =
        let l = ltb-false j (length (F x)) t in
        let g = ih (omega (arith, length-append (F x) (gather F xs))) in
        (suc g.0, g.1, omega (arith, g.2), g.3, omega (arith, g.4))
