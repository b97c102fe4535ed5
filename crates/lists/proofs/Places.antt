-- Laws of places in an ascending list, and what a turn of the halving keeps.
use mathlib.Core.Path.{◌≡◌, sym}
use mathlib.Core.Logic.{⊎_elim}
use mathlib.Core.List.{List}
use Prim.Native.Nat.{ℕ, ◌+◌, ◌-◌, ◌/◌, ◌≤◌, ◌<◌}
use native.Mathlib.Nat.{eq-or-lt_of_le}
use native.Mathlib.Omega.{arith}
use borrow.Author.Tests.{lt-leb, le-leb, leb-true, leb-false}
use Rattle.bits.proofs.Searches.{first_of-is, first_of-mono, first_of-le, first_of-before, first_of-at}
use Rattle.routes.specs.Route.{key}
use Rattle.routes.specs.Record.{record_at, Records}
use Rattle.lists.specs.Place.{from_key, place_of}

module _ (s : List ℕ) (n k : ℕ) where
  pub place-le : place_of s n k ≤ n
  unfolding place_of
  place-le = first_of-le (from_key s k) n

  -- every record before the place is smaller
  pub place-before : (j : ℕ) → j < place_of s n k → key (record_at s j) < k
  unfolding place_of
  place-before j h = leb-false k (key (record_at s j)) (first_of-before (from_key s k) n j h)

  -- p splits n records: those before it are smaller, and those from it on are not. Then p is the place
  pub place_is : (p : ℕ) → p ≤ n → ((j : ℕ) → j < p → key (record_at s j) < k) → ((j : ℕ) → p ≤ j → j < n → k ≤ key (record_at s j)) → p ≡ place_of s n k
  unfolding place_of
  place_is p u below above =
      sym (first_of-is (from_key s k) n p u (λ j l. lt-leb k (key (record_at s j)) (below j l)) (λ l. le-leb k (key (record_at s p)) (above p (omega arith) l)))

  module _ (r : Records s n) where
    later : (i j : ℕ) → i ≤ j → j < n → key (record_at s i) ≤ key (record_at s j)
    later i j h u =
        ⊎_elim (λ (q : i ≡ j). rw q (omega arith)) (λ (q : i < j). omega (arith, r.rises i j q u)) (eq-or-lt_of_le h)

    -- every record from the place on is not smaller
    pub place_after : (j : ℕ) → place_of s n k ≤ j → j < n → k ≤ key (record_at s j)
    unfolding place_of
    place_after j h u =
        omega (arith, leb-true k (key (record_at s (place_of s n k))) (first_of-at (from_key s k) n (omega arith)), later (place_of s n k) j h u)

    -- a turn of the halving
    pub up : (mid x : ℕ) → mid < n → x ≡ key (record_at s mid) → x < k → (j : ℕ) → j < mid + 1 → key (record_at s j) < k
    up mid x m e h j l = omega (arith, later j mid (omega arith) m)

    pub down : (mid x : ℕ) → x ≡ key (record_at s mid) → k ≤ x → (j : ℕ) → mid ≤ j → j < n → k ≤ key (record_at s j)
    down mid x e h j l u = omega (arith, later mid j l u)

-- a smaller key has no later place
pub place_mono : (s : List ℕ) (n k m : ℕ) → k ≤ m → place_of s n k ≤ place_of s n m
unfolding place_of
place_mono s n k m h =
    first_of-mono (from_key s k) (from_key s m) n (λ j t. le-leb k (key (record_at s j)) (omega (arith, leb-true m (key (record_at s j)) t)))

pub mid-below : (low high n : ℕ) → low < high → high ≤ n → low + (high - low) / 2 < n
mid-below low high n l u = omega arith
