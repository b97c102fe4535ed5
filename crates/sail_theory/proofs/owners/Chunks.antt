-- Laws of `chunk_for`, and of how many chunks are in use.
use mathlib.Core.Path.{◌≡◌, refl, ap}
use mathlib.Core.Logic.{◌⊎◌, inl, inr, ◌≢◌}
use mathlib.Core.Bool.{Bool, true, false}
use mathlib.Core.List.{List}
use Prim.Native.Nat.{ℕ, zero, suc, ◌≤◌, ◌<◌}
use native.Mathlib.Omega.{arith}
use native.Mathlib.Nat.{le_step, le_refl}
use lib.Dec.{eqb}
use lib.ListN.{get_or, length, get_or-eq_default}
use borrow.Author.Tests.{eqb-true, eqb-false, eq-eqb, ne_eqb, lt-ltb}
use Rattle.bits.specs.Count.{bit, count}
use Rattle.bits.proofs.Searches.{first_of-is, first_of-le, first_of-before, first_of-at}
use Rattle.bits.proofs.Bools.{below?}
use Rattle.sail.specs.Level.{Chunks, chunk_for, in_use, chunks_of}
use Rattle.sail_theory.specs.Render.{find}

module _ (k : Chunks) (o : ℕ) where
  pub chunk-le : chunk_for k o ≤ k.many
  unfolding chunk_for
  chunk-le = first_of-le (λ c. eqb (k.own c) o) k.many

  pub chunk-at : chunk_for k o < k.many → k.own (chunk_for k o) ≡ o
  unfolding chunk_for
  chunk-at h = eqb-true _ _ (first_of-at (λ c. eqb (k.own c) o) k.many h)

  pub chunk-before : (j : ℕ) → j < chunk_for k o → k.own j ≢ o
  unfolding chunk_for
  chunk-before j h = eqb-false _ _ (first_of-before (λ c. eqb (k.own c) o) k.many j h)

  -- the first that is o
  pub chunk-is : (c : ℕ) → c < k.many → k.own c ≡ o → ((j : ℕ) → j < c → k.own j ≢ o) → chunk_for k o ≡ c
  unfolding chunk_for
  chunk-is c h e n = first_of-is (λ c. eqb (k.own c) o) k.many c (omega arith) (λ j l. ne_eqb (k.own j) o (n j l)) (λ l. eq-eqb (k.own c) o e)

  -- none of the first m is
  pub chunk-none : ((j : ℕ) → j < k.many → k.own j ≢ o) → chunk_for k o ≡ k.many
  unfolding chunk_for
  chunk-none n = first_of-is (λ c. eqb (k.own c) o) k.many k.many (le_refl k.many) (λ j l. ne_eqb (k.own j) o (n j l)) (λ l. absurd (omega arith))

  pub chunk-has : (c : ℕ) → k.own c ≡ o → chunk_for k o ≤ c
  chunk-has c e = go (below? c (chunk_for k o))
    where
      go : (c < chunk_for k o) ⊎ (chunk_for k o ≤ c) → chunk_for k o ≤ c
      go (inl l) = absurd (chunk-before c l e)
      go (inr l) = l

-- past the last chunk, too, the owner is 0
pub free-zero : (own : List ℕ) → get_or own (find own 0) 0 ≡ 0
free-zero own = go (below? (find own 0) (length own))
  where
    go : (find own 0 < length own) ⊎ (length own ≤ find own 0) → get_or own (find own 0) 0 ≡ 0
    go (inl h) = chunk-at (chunks_of own) 0 h
    go (inr h) = get_or-eq_default own 0 h

-- a chunk is free exactly where not all are in use
count-all : (p : ℕ → Bool) (n : ℕ) → ((i : ℕ) → i < n → p i ≡ true) → count p n ≡ n
unfolding count
count-all p zero h = refl
count-all p (suc n) h = omega (arith, ap bit (h n (le_refl (suc n))), count-all p n (λ i l. h i (le_step l)))

bit_le : (b : Bool) → bit b ≤ 1
bit_le true = omega arith
bit_le false = omega arith

count-le : (p : ℕ → Bool) (n : ℕ) → count p n ≤ n
unfolding count
count-le p zero = le_refl 0
count-le p (suc n) = omega (arith, bit_le (p n), count-le p n)

module _ (k : Chunks) where
  pub used_le : count (in_use k.own) k.many ≤ k.many
  used_le = count-le (in_use k.own) k.many

  pub used-free : count (in_use k.own) k.many < k.many → chunk_for k 0 < k.many
  used-free h = go (below? (chunk_for k 0) k.many)
    where
      go : (chunk_for k 0 < k.many) ⊎ (k.many ≤ chunk_for k 0) → chunk_for k 0 < k.many
      go (inl l) = l
      go (inr l) =
          absurd (omega (
            arith,
            count-all (in_use k.own) k.many (λ i b.
                let z = chunk-before k 0 i (omega arith) in
                lt-ltb 0 (k.own i) (omega arith)),
          ))
