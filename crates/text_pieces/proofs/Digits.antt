-- The digits of a number are the one list that is the number in decimal, and there are few of them.
use mathlib.Core.Path.{◌≡◌, refl, sym, ap, ◌∙◌, subst}
use mathlib.Core.Logic.{◌⊎◌, inl, inr, ⊎_elim}
use mathlib.Core.Bool.{true}
use mathlib.Core.List.{List, [], ◌∷◌, ◌++◌}
use Prim.Native.Nat.{ℕ, zero, suc, ◌+◌, ◌-◌, ◌*◌, ◌/◌, ◌%◌, ◌^◌, ◌≤◌, ◌<◌}
use native.Mathlib.Nat.{le_refl, pow-suc, not-suc-le-zero}
use native.Mathlib.Omega.{arith}
use lib.Dec.{ltb}
use lib.ListN.{length, get_or, take, length-append, get_or-append}
use lib.Seq.{take_all, take-suc, length-take-le, get_or-take, get_or-append_seam}
use borrow.Author.Tests.{lt-ltb, le-ltb}
use Rattle.bits.proofs.Bools.{below?}
use Rattle.text_pieces.specs.Digits.{value_after, Decimal, digits_in, digits_of}

-- how digits go: one below 10, else those of n / 10 and one more
in_one : (s n : ℕ) → digits_in s true n ≡ (48 + n) ∷ []
unfolding digits_in
in_one zero n = refl
in_one (suc s) n = refl

in-enough : (s t n : ℕ) → n ≤ s → n ≤ t → digits_in s (ltb n 10) n ≡ digits_in t (ltb n 10) n
unfolding digits_in
in-enough zero t n hs ht = rw (lt-ltb n 10 (omega arith)) (sym (in_one t n))
in-enough (suc s) zero n hs ht = rw (lt-ltb n 10 (omega arith))
in-enough (suc s) (suc t) n hs ht = go (below? n 10) (in-enough s t (n / 10))
  where
    go : (n < 10) ⊎ (10 ≤ n) → (n / 10 ≤ s → n / 10 ≤ t → digits_in s (ltb (n / 10) 10) (n / 10) ≡ digits_in t (ltb (n / 10) 10) (n / 10)) → digits_in
        (suc s) (ltb n 10) n ≡ digits_in (suc t) (ltb n 10) n
    go (inl h) ih = rw (lt-ltb n 10 h)
    go (inr h) ih = rw (le-ltb n 10 h, ih (omega arith) (omega arith))

pub digits-one : (n : ℕ) → n < 10 → digits_of n ≡ (48 + n) ∷ []
unfolding digits_of
digits-one n h = rw (lt-ltb n 10 h) (in_one n n)

pub digits_more : (n : ℕ) → 10 ≤ n → digits_of n ≡ digits_of (n / 10) ++ ((48 + n % 10) ∷ [])
unfolding digits_of digits_in
digits_more zero h = absurd (not-suc-le-zero h)
digits_more (suc m) h = rw (le-ltb (suc m) 10 h, in-enough m (suc m / 10) (suc m / 10) (omega arith) (le_refl (suc m / 10)))

digits-ind : (P : ℕ → Type 0) → ((n : ℕ) → n < 10 → P n) → ((n : ℕ) → 10 ≤ n → P (n / 10) → P n) → (n : ℕ) → P n
digits-ind P one more n = by-steps n n (le_refl n)
  where
    by-steps : (s k : ℕ) → k ≤ s → P k
    by-steps zero k h = one k (omega arith)
    by-steps (suc s) k h = ⊎_elim (λ l. one k l) (λ l. more k l (by-steps s (k / 10) (omega arith))) (below? k 10)

-- digits and one more
value-snoc : (v : ℕ) (ds : List ℕ) (d : ℕ) → value_after v (ds ++ (d ∷ [])) ≡ value_after v ds * 10 + (d - 48)
unfolding value_after
value-snoc v [] d = refl
value-snoc v (x ∷ ds) d = value-snoc (v * 10 + (x - 48)) ds d

length-snoc : (ds : List ℕ) (d : ℕ) → length (ds ++ (d ∷ [])) ≡ length ds + 1
length-snoc ds d = length-append ds (d ∷ [])

first-snoc : (ds : List ℕ) (d : ℕ) → 0 < length ds → get_or (ds ++ (d ∷ [])) 0 0 ≡ get_or ds 0 0
first-snoc ds d h = get_or-append ds (d ∷ []) 0 0 h

-- the first digit of a number above 0 is not 0
pub digits-front : (n : ℕ) → 1 ≤ n → (0 < length (digits_of n)) × (49 ≤ get_or (digits_of n) 0 0)
digits-front = digits-ind (λ n. 1 ≤ n → (0 < length (digits_of n)) × (49 ≤ get_or (digits_of n) 0 0)) one more
  where
    one : (n : ℕ) → n < 10 → 1 ≤ n → (0 < length (digits_of n)) × (49 ≤ get_or (digits_of n) 0 0)
    one n h p = rw digits-one (omega arith, omega arith)

    more : (n : ℕ) → 10 ≤ n → (1 ≤ n / 10 → (0 < length (digits_of (n / 10))) × (49 ≤ get_or (digits_of (n / 10)) 0 0)) → 1 ≤ n →
        (0 < length (digits_of n)) × (49 ≤ get_or (digits_of n) 0 0)
    more n h ih p =
        let i = ih (omega arith) in
        rw (digits_more n h, length-snoc, first-snoc _ _ i.0) (omega arith, i.1)

-- one digit, and one more
decimal-one : (n : ℕ) → n < 10 → Decimal n ((48 + n) ∷ [])
unfolding value_after
decimal-one n h = record {
  some = omega arith;
  each = λ i l. let z : i ≡ 0 = omega arith in rw z (omega arith, omega arith);
  front = λ l. absurd (omega arith);
  value = omega arith;
}

decimal-more : (n d : ℕ) (ds : List ℕ) → Decimal n ds → 49 ≤ get_or ds 0 0 → d < 10 → Decimal (n * 10 + d) (ds ++ ((48 + d) ∷ []))
decimal-more n d ds t f h = record {
  some = rw length-snoc (omega arith);
  each = λ i l. at i (rw length-snoc at l) (below? i (length ds));
  front = λ l. rw (first-snoc ds (48 + d) t.some) f;
  value = rw (value-snoc, t.value) (omega arith);
}
  where
    at : (i : ℕ) → i < length ds + 1 → (i < length ds) ⊎ (length ds ≤ i) → (48 ≤ get_or (ds ++ ((48 + d) ∷ [])) i 0) × (get_or (ds ++ ((48 + d) ∷ [])) i 0 ≤ 57)
    at i l (inl k) = rw (get_or-append ds ((48 + d) ∷ []) 0 i k) (t.each i k)
    at i l (inr k) =
        let z : i ≡ length ds = omega arith in
        rw (z, get_or-append_seam ds (48 + d) [] 0) (omega arith, omega arith)

-- the digits of a number are the number in decimal
pub digits_are : (n : ℕ) → Decimal n (digits_of n)
digits_are = digits-ind (λ n. Decimal n (digits_of n)) (λ n h. rw (digits-one n h) (decimal-one n h)) more
  where
    more : (n : ℕ) → 10 ≤ n → Decimal (n / 10) (digits_of (n / 10)) → Decimal n (digits_of n)
    more n h t =
        let e : n / 10 * 10 + n % 10 ≡ n = omega arith in
        rw (digits_more n h)
        (subst (λ (m : ℕ). Decimal m (digits_of (n / 10) ++ ((48 + n % 10) ∷ []))) e
        (decimal-more (n / 10) (n % 10) (digits_of (n / 10)) t (digits-front (n / 10) (omega arith)).1 (omega arith)))

-- and nothing else is
value_grows : (v : ℕ) (ds : List ℕ) → v ≤ value_after v ds
unfolding value_after
value_grows v [] = le_refl v
value_grows v (x ∷ ds) = omega (arith, value_grows (v * 10 + (x - 48)) ds)

value-some : (ds : List ℕ) → 49 ≤ get_or ds 0 0 → 1 ≤ value_after 0 ds
unfolding value_after
value-some [] h = absurd (omega arith)
value-some (x ∷ ds) h = omega (arith, value_grows (0 * 10 + (x - 48)) ds)

only_one : (n : ℕ) (ds : List ℕ) → length ds ≡ 1 → Decimal n ds → ds ≡ digits_of n
unfolding value_after
only_one n [] e t = absurd (omega arith)
only_one n (x ∷ []) e t =
    let v = t.value in
    let x-is : x ≡ 48 + n = omega (arith, (t.each 0 t.some).0) in
    rw (digits-one n (omega (arith, (t.each 0 t.some).1))) (ap (λ (d : ℕ). d ∷ []) x-is)
only_one n (x ∷ y ∷ ds) e t = absurd (omega arith)

only : (k n : ℕ) (ds : List ℕ) → length ds ≡ suc k → Decimal n ds → ds ≡ digits_of n
only zero n ds e t = only_one n ds e t
only (suc k) n ds e t =
    let es : List ℕ = take (suc k) ds in
    let d : ℕ = get_or ds (suc k) 0 in
    let le : length es ≡ suc k = length-take-le (suc k) ds (omega arith) in
    let cut : ds ≡ es ++ (d ∷ []) = sym (take_all (suc (suc k)) ds (omega arith)) ∙ take-suc ds (suc k) 0 (omega arith) in
    let fe : get_or es 0 0 ≡ get_or ds 0 0 = get_or-take (suc k) ds 0 0 (omega arith) in
    let ve : value_after 0 es * 10 + (d - 48) ≡ n = sym (value-snoc 0 es d) ∙ ap (value_after 0) (sym cut) ∙ t.value in
    let pos : 1 ≤ value_after 0 es = value-some es (omega (arith, t.front (omega arith))) in
    let dig = t.each (suc k) (omega arith) in
    let ih : es ≡ digits_of (value_after 0 es) = only k (value_after 0 es) es le record {
      some = omega arith;
      each = λ i l. rw (get_or-take (suc k) ds i 0 (omega arith)) (t.each i (omega arith));
      front = λ l. omega (arith, t.front (omega arith));
      value = refl;
    } in
    let q : n / 10 ≡ value_after 0 es = omega arith in
    let r : 48 + n % 10 ≡ d = omega arith in
    rw (digits_more n (omega arith), q, r, ← ih) cut

pub digits-only : (n : ℕ) (ds : List ℕ) → Decimal n ds → ds ≡ digits_of n
digits-only n [] t = absurd (omega (arith, t.some))
digits-only n (x ∷ ds) t = only (length ds) n (x ∷ ds) refl t

-- a number below 10 ^ k, k at least 1, has at most k digits
pub digits-few : (k n : ℕ) → n < 10 ^ suc k → length (digits_of n) ≤ suc k
digits-few zero n h = rw (digits-one n h) (omega arith)
digits-few (suc k) n h = go (below? n 10) (digits-few k (n / 10))
  where
    go : (n < 10) ⊎ (10 ≤ n) → (n / 10 < 10 ^ suc k → length (digits_of (n / 10)) ≤ suc k) → length (digits_of n) ≤ suc (suc k)
    go (inl l) ih = rw (digits-one n l) (omega arith)
    go (inr l) ih =
        let p = pow-suc 10 (suc k) in
        rw (digits_more n l, length-snoc) (omega (arith, ih (omega arith)))
