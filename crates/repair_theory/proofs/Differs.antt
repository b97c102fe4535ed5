-- At how many places two lists differ: nowhere exactly where they are equal, and at one where one element was set to another.
use mathlib.Core.Path.{◌≡◌, refl, sym, ◌∙◌, ap}
use mathlib.Core.Logic.{◌⊎◌, inl, inr, ◌↔◌}
use mathlib.Core.Bool.{Bool, true, false, not, true≢false}
use mathlib.Core.List.{List}
use Prim.Native.Nat.{ℕ, zero, suc, ◌<◌}
use native.Mathlib.Omega.{arith}
use lib.Dec.{eqb}
use lib.ListN.{length, get_or, set, length-set}
use lib.Seq.{ext_get_or, get_or-set_same, get_or-set_other}
use borrow.Author.Tests.{eqb-true, eq-eqb, ne_eqb}
use Rattle.bits.specs.Count.{count}
use Rattle.bits.proofs.Bools.{decided}
use Rattle.bits.proofs.Counts.{count-ext, without, without_other, without-same, count-without}
use Rattle.repair_theory.specs.Repair.{differ}

count_none : (n : ℕ) → count (λ _. false) n ≡ 0
unfolding count
count_none zero = refl
count_none (suc n) = omega (arith, count_none n)

-- where none passes a test, each fails it
count-zero : (f : ℕ → Bool) (n i : ℕ) → i < n → count f n ≡ 0 → f i ≡ false
count-zero f n i h e = go (decided (f i))
  where
    go : (f i ≡ true) ⊎ (f i ≡ false) → f i ≡ false
    go (inl q) = absurd (omega (arith, e, count-without f i n h q))
    go (inr q) = q

-- the places differ
abbrev off : List ℕ → List ℕ → ℕ → Bool
off xs ys q = not (eqb (get_or xs q 0) (get_or ys q 0))

off-same : (xs ys : List ℕ) (q : ℕ) → get_or xs q 0 ≡ get_or ys q 0 → off xs ys q ≡ false
off-same xs ys q e = rw (eq-eqb _ _ e)

same-off : (x y : ℕ) → not (eqb x y) ≡ false → x ≡ y
same-off x y e = go (decided (eqb x y)) e
  where
    go : (eqb x y ≡ true) ⊎ (eqb x y ≡ false) → not (eqb x y) ≡ false → x ≡ y
    go (inl q) e = eqb-true x y q
    go (inr q) e = absurd (true≢false (rw q at e))

pub differ_same : (xs ys : List ℕ) → ys ≡ xs → differ xs ys ≡ 0
unfolding differ
differ_same xs ys e =
    count-ext (off xs ys) (λ _. false) (length xs) (λ q h. off-same xs ys q (rw e)) ∙ count_none (length xs)

differ-none : (xs ys : List ℕ) → length ys ≡ length xs → differ xs ys ≡ 0 → ys ≡ xs
unfolding differ
differ-none xs ys n e =
    ext_get_or 0 ys xs n (λ q h. sym (same-off (get_or xs q 0) (get_or ys q 0) (count-zero (off xs ys) (length xs) q (omega (arith, n, h)) e)))

-- "the cells that differ from before": 0 exactly where all are as before
pub differ-zero : (xs ys : List ℕ) → length ys ≡ length xs → (differ xs ys ≡ 0) ↔ (ys ≡ xs)
differ-zero xs ys n = (differ-none xs ys n, differ_same xs ys)

-- one place alone
module _ (xs : List ℕ) (q v : ℕ) (h : q < length xs) (n : v ≡ get_or xs q 0 → ⊥) where
  abbrev f : ℕ → Bool
  f = off (set xs q v) xs

  here : f q ≡ true
  here = rw (get_or-set_same xs q v 0 h, ne_eqb v (get_or xs q 0) n)

  gone : (i : ℕ) → without f q i ≡ false
  gone i = go (decided (eqb i q))
    where
      go : (eqb i q ≡ true) ⊎ (eqb i q ≡ false) → without f q i ≡ false
      go (inl e) = rw (eqb-true i q e) (without-same f q)
      go (inr e) =
          let other : i ≡ q → ⊥ = λ p. true≢false (sym (eq-eqb i q p) ∙ e) in
          without_other f q i other ∙ off-same (set xs q v) xs i (get_or-set_other xs q i v 0 other)

  pub differ-one : differ (set xs q v) xs ≡ 1
  unfolding differ
  differ-one =
      rw (length-set xs q v)
      (count-without f q (length xs) h here ∙ ap suc (count-ext (without f q) (λ _. false) (length xs) (λ i l. gone i) ∙ count_none (length xs)))
