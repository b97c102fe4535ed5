-- Laws of `first_of`.
use mathlib.Core.Path.{◌≡◌, refl, sym, ◌∙◌}
use mathlib.Core.Logic.{⊎_elim}
use mathlib.Core.Bool.{Bool, true, false, cond, true≢false}
use Prim.Native.Nat.{ℕ, zero, suc, ◌+◌, ◌≤◌, ◌<◌, zero-le}
use native.Mathlib.Nat.{eq-or-lt_of_le, le_refl}
use native.Mathlib.Omega.{arith}
use Rattle.bits.specs.Search.{first_from, first_of}

module _ (p : ℕ → Bool) where
  first_from-is : (d k r : ℕ) → k ≤ r → r ≤ k + d → ((j : ℕ) → k ≤ j → j < r → p j ≡ false) → (r < k + d → p r ≡ true) → first_from p d k ≡ r
  unfolding first_from
  first_from-is zero k r l u none at = omega arith
  first_from-is (suc d) k r l u none at =
      ⊎_elim
      (λ (e : k ≡ r). rw (← e) (simp (rw (← e) at (at (omega arith)))))
      (λ (lt : k < r). simp (none k (le_refl k) lt) (first_from-is d (suc k) r lt (omega arith) (λ j a b. none j (omega arith) b) (λ a. at (omega arith))))
      (eq-or-lt_of_le l)

  -- r is the first number below n that passes the test, or n
  pub first_of-is : (n r : ℕ) → r ≤ n → ((j : ℕ) → j < r → p j ≡ false) → (r < n → p r ≡ true) → first_of p n ≡ r
  unfolding first_of
  first_of-is n r u none at = first_from-is n 0 r zero-le (omega arith) (λ j _ b. none j b) (λ a. at (omega arith))

  first-le : (d k : ℕ) → first_from p d k ≤ k + d
  unfolding first_from
  first-le zero k = omega arith
  first-le (suc d) k = go (p k) (first-le d (suc k))
    where
      go : (b : Bool) → first_from p d (suc k) ≤ suc k + d → cond b k (first_from p d (suc k)) ≤ k + suc d
      go true h = omega arith
      go false h = omega arith

  first-before : (d k j : ℕ) → k ≤ j → j < first_from p d k → p j ≡ false
  unfolding first_from
  first-before zero k j l u = absurd (omega arith)
  first-before (suc d) k j l u = go (p k) refl (first-before d (suc k) j) u
    where
      go : (b : Bool) → p k ≡ b → (suc k ≤ j → j < first_from p d (suc k) → p j ≡ false) → j < cond b k (first_from p d (suc k)) → p j ≡ false
      go true e ih u = absurd (omega arith)
      go false e ih u = ⊎_elim (λ (q : k ≡ j). rw q at e) (λ (q : k < j). ih q u) (eq-or-lt_of_le l)

  first-at : (d k : ℕ) → first_from p d k < k + d → p (first_from p d k) ≡ true
  unfolding first_from
  first-at zero k u = absurd (omega arith)
  first-at (suc d) k u = go (p k) refl (first-at d (suc k)) u
    where
      go : (b : Bool) → p k ≡ b → (first_from p d (suc k) < suc k + d → p (first_from p d (suc k)) ≡ true) → cond b k
          (first_from p d (suc k)) < k + suc d → p (cond b k (first_from p d (suc k))) ≡ true
      go true e ih u = e
      go false e ih u = ih (omega arith)

  pub first_of-le : (n : ℕ) → first_of p n ≤ n
  unfolding first_of
  first_of-le n = omega (arith, first-le n 0)

  pub first_of-before : (n j : ℕ) → j < first_of p n → p j ≡ false
  unfolding first_of
  first_of-before n j u = first-before n 0 j zero-le u

  pub first_of-at : (n : ℕ) → first_of p n < n → p (first_of p n) ≡ true
  unfolding first_of
  first_of-at n u = first-at n 0 (omega arith)

-- a test that passes less often passes first no earlier
pub first_of-mono : (p q : ℕ → Bool) (n : ℕ) → ((j : ℕ) → q j ≡ true → p j ≡ true) → first_of p n ≤ first_of q n
first_of-mono p q n imp =
    let h : ¬ (first_of q n < first_of p n)
    = λ (l : first_of q n < first_of p n). true≢false (sym (imp _ (first_of-at q n (omega (arith, first_of-le p n)))) ∙ first_of-before p n _ l)
    in omega arith
