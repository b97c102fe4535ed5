-- How many long routes a cell holds: it is long where there is one; no more than there are routes; by their places in the list, and so the
-- length of the run where they stand side by side.
use mathlib.Core.Path.{◌≡◌, refl, ◌∙◌, ap}
use mathlib.Core.Logic.{◌⊎◌, inl, inr}
use mathlib.Core.Bool.{Bool, true, false, ◌||◌}
use mathlib.Core.List.{List, [], ◌∷◌}
use Prim.Native.Nat.{ℕ, zero, suc, ◌+◌, ◌-◌, ◌≤◌, ◌<◌}
use native.Mathlib.Nat.{le_refl, le_step}
use native.Mathlib.Omega.{arith}
use lib.Dec.{ltb}
use lib.ListN.{get_or, length}
use borrow.Author.Tests.{ltb-true, ltb-false, lt-ltb}
use Rattle.bits.specs.Count.{bit, count}
use Rattle.bits.proofs.Counts.{count-front}
use Rattle.bits.proofs.Bools.{below?}
use Rattle.routes.specs.Record.{no_route}
use Rattle.routes.specs.declared.Route.{Route}
use Rattle.standing.specs.Cells.{within, any, long}
use Rattle.counts.specs.Counts.{how_many}

-- a cell is long exactly where it is counted
pub long-many : (rs : List Route) (p i : ℕ) → ltb 0 (how_many rs p i) ≡ long rs p i
unfolding how_many any
long-many [] p i = refl
long-many (r ∷ rs) p i = go (within p i r) (long-many rs p i)
  where
    go : (b : Bool) → ltb 0 (how_many rs p i) ≡ long rs p i → ltb 0 (bit b + how_many rs p i) ≡ (b || long rs p i)
    go true ih = lt-ltb 0 (1 + how_many rs p i) (omega arith)
    go false ih =
        let z : 0 + how_many rs p i ≡ how_many rs p i = omega arith in
        ap (ltb 0) z ∙ ih

module _ (rs : List Route) (p i : ℕ) where
  pub many-none : long rs p i ≡ false → how_many rs p i ≡ 0
  many-none e = omega (arith, ltb-false 0 (how_many rs p i) (long-many rs p i ∙ e))

  pub many-some : long rs p i ≡ true → 0 < how_many rs p i
  many-some e = ltb-true 0 (how_many rs p i) (long-many rs p i ∙ e)

bit_le : (b : Bool) → bit b ≤ 1
bit_le true = le_refl 1
bit_le false = omega arith

pub many-le : (rs : List Route) (p i : ℕ) → how_many rs p i ≤ length rs
unfolding how_many
many-le [] p i = le_refl 0
many-le (r ∷ rs) p i = omega (arith, bit_le (within p i r), many-le rs p i)

-- by places
pub many-places : (rs : List Route) (p i : ℕ) → how_many rs p i ≡ count (λ j. within p i (get_or rs j no_route)) (length rs)
unfolding how_many count
many-places [] p i = refl
many-places (r ∷ rs) p i = omega (arith, many-places rs p i, count-front (λ j. within p i (get_or (r ∷ rs) j no_route)) (length rs))

-- a test that the numbers from lo up to hi pass, and no others
count-run : (f : ℕ → Bool) (n lo hi : ℕ) → lo ≤ hi → hi ≤ n
    → ((j : ℕ) → j < lo → f j ≡ false) → ((j : ℕ) → lo ≤ j → j < hi → f j ≡ true) → ((j : ℕ) → hi ≤ j → j < n → f j ≡ false)
    → count f n ≡ hi - lo
unfolding count
count-run f zero lo hi from to before inside past = omega arith
count-run f (suc n) lo hi from to before inside past = go (count-run f n) (below? n hi) (below? n lo)
  where
    go : ((a b : ℕ) → a ≤ b → b ≤ n → ((j : ℕ) → j < a → f j ≡ false) → ((j : ℕ) → a ≤ j → j < b → f j ≡ true) → ((j : ℕ) → b ≤ j → j < n → f j ≡ false)
        → count f n ≡ b - a)
        → (n < hi) ⊎ (hi ≤ n) → (n < lo) ⊎ (lo ≤ n) → bit (f n) + count f n ≡ hi - lo
    go ih (inr u) l = omega (
      arith,
      ap bit (past n u (le_refl (suc n))),
      ih lo hi from u before inside (λ j a b. past j a (le_step b)),
    )
    go ih (inl u) (inl l) = omega (
      arith,
      ap bit (before n l),
      ih n n (le_refl n) (le_refl n) (λ j a. before j (omega arith)) (λ j a b. absurd (omega arith)) (λ j a b. absurd (omega arith)),
    )
    go ih (inl u) (inr l) = omega (
      arith,
      ap bit (inside n l u),
      ih lo n l (le_refl n) before (λ j a b. inside j a (omega arith)) (λ j a b. absurd (omega arith)),
    )

-- the routes of the cell stand side by side, from lo up to hi
pub many-run : (rs : List Route) (p i lo hi : ℕ) → lo ≤ hi → hi ≤ length rs
    → ((j : ℕ) → j < lo → within p i (get_or rs j no_route) ≡ false)
    → ((j : ℕ) → lo ≤ j → j < hi → within p i (get_or rs j no_route) ≡ true)
    → ((j : ℕ) → hi ≤ j → j < length rs → within p i (get_or rs j no_route) ≡ false)
    → how_many rs p i ≡ hi - lo
many-run rs p i lo hi from to before inside past =
    many-places rs p i ∙ count-run (λ j. within p i (get_or rs j no_route)) (length rs) lo hi from to before inside past
