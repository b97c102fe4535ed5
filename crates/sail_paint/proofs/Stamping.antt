-- The numbers of chunks, stamped one by one into the cells that they hang from.
use mathlib.Core.Path.{◌≡◌, refl, sym, ◌∙◌}
use mathlib.Core.Logic.{◌⊎◌, inl, inr, ◌≢◌}
use mathlib.Core.Bool.{true, false, cond}
use mathlib.Core.List.{List}
use Prim.Native.Nat.{ℕ, suc, ◌+◌, ◌-◌, ◌≤◌, ◌<◌}
use native.Mathlib.Numerals.{add-one}
use native.Mathlib.Omega.{arith}
use lib.Dec.{eqb, ltb}
use lib.ListN.{length, get_or, set}
use borrow.Author.Tests.{lt-ltb, le-ltb, eqb-true, eqb-false}
use Rattle.bits.proofs.Bools.{decided, below?, equal?}
use Rattle.bits.proofs.Tabs.{length-tabulate, get_d_tabulate, is-tabulate, tabulate-ext, set-tabulate}
use Rattle.sail.specs.Level.{chunk_for, entry}
use Rattle.sail_theory.proofs.owners.Chunks.{chunk-at, chunk-before, chunk-is, chunk-none}
use Rattle.sail_paint.specs.Paint.{chunks, stamped_by, Stamps}

-- what is stamped over x at place q, of the first m chunks
abbrev pub stamp_at : (ℕ → ℕ) → ℕ → ℕ → ℕ → ℕ
stamp_at own m q x = cond (ltb (chunk_for (chunks m own) (suc q)) m) (suc (chunk_for (chunks m own) (suc q))) x

module _ (own : ℕ → ℕ) (q x : ℕ) where
  -- chunk k hangs from another place
  stamp-other : (k : ℕ) → own k ≢ suc q → stamp_at own (suc k) q x ≡ stamp_at own k q x
  stamp-other k n = go (below? (chunk_for (chunks k own) (suc q)) k)
    where
      go : (chunk_for (chunks k own) (suc q) < k) ⊎ (k ≤ chunk_for (chunks k own) (suc q)) → stamp_at own (suc k) q x ≡ stamp_at own k q x
      go (inl l) =
          let e : chunk_for (chunks (suc k) own) (suc q) ≡ chunk_for (chunks k own) (suc q) = chunk-is (chunks (suc k) own) (suc q)
          (chunk_for (chunks k own) (suc q)) (omega arith) (chunk-at (chunks k own) (suc q) l) (chunk-before (chunks k own) (suc q)) in
          rw (e, lt-ltb (chunk_for (chunks k own) (suc q)) (suc k) (omega arith), lt-ltb (chunk_for (chunks k own) (suc q)) k l)
      go (inr l) =
          let e : chunk_for (chunks (suc k) own) (suc q) ≡ suc k = chunk-none (chunks (suc k) own) (suc q) (λ j u. each j u (equal? j k)) in
          rw (e, le-ltb (suc k) (suc k) (omega arith), le-ltb (chunk_for (chunks k own) (suc q)) k l)
        where
          each : (j : ℕ) → j < suc k → (j ≡ k) ⊎ (j ≢ k) → own j ≢ suc q
          each j u (inl e) = rw e n
          each j u (inr e) = chunk-before (chunks k own) (suc q) j (omega arith)

  -- chunk k hangs from q, and none before it does
  stamp-same : (k : ℕ) → own k ≡ suc q → ((j : ℕ) → j < k → own j ≢ suc q) → stamp_at own (suc k) q x ≡ suc k
  stamp-same k e n =
      let z : chunk_for (chunks (suc k) own) (suc q) ≡ k = chunk-is (chunks (suc k) own) (suc q) k (omega arith) e n in
      rw (z, lt-ltb k (suc k) (omega arith))

module _ (own : ℕ → ℕ) (cells : List ℕ) where
  pub length-stamped : (m : ℕ) → length (stamped_by m own cells) ≡ length cells
  unfolding stamped_by
  length-stamped m = length-tabulate (length cells) _

  pub stamped-at : (m q : ℕ) → q < length cells → get_or (stamped_by m own cells) q 0 ≡ stamp_at own m q (get_or cells q 0)
  unfolding stamped_by
  stamped-at m q l = get_d_tabulate (length cells) _ q 0 l

  pub stamp-none : cells ≡ stamped_by 0 own cells
  unfolding stamped_by
  stamp-none = is-tabulate 0 cells (length cells) _ refl (λ q l. rw (le-ltb (chunk_for (chunks 0 own) (suc q)) 0 (omega arith)))

module _ (own cells : List ℕ) (s : Stamps own cells) (c o : ℕ) (l : c < length own) (is : (o ≡ get_or own c 0) × (o < 4294967296)) where
  -- a chunk that is free
  pub stamp-free : (now : List ℕ) → o ≡ 0 → now ≡ stamped_by c (entry own) cells → now ≡ stamped_by (c + 1) (entry own) cells
  unfolding stamped_by
  stamp-free now z was = was ∙ rw add-one (tabulate-ext (length cells) _ _
      (λ q u. sym (stamp-other (entry own) q (get_or cells q 0) c (λ e. omega (arith, is.0)))))

  owner : (o ≡ 0 → ⊥) → get_or own c 0 ≡ suc (o - 1)
  owner some = omega (arith, is.0)

  pub stamp-room : (o ≡ 0 → ⊥) → o - 1 < length cells
  stamp-room some = s.inside c (o - 1) l (owner some)

  -- and one that is stamped
  pub stamp-more : (now : List ℕ) → (o ≡ 0 → ⊥) → now ≡ stamped_by c (entry own) cells → set now (o - 1) (c + 1) ≡ stamped_by (c + 1) (entry own) cells
  unfolding stamped_by
  stamp-more now some was =
      rw (was, add-one) (set-tabulate (length cells) _ (o - 1) (suc c) ∙ tabulate-ext (length cells) _ _ (λ q u. go q (decided (eqb q (o - 1)))))
    where
      first : (j : ℕ) → j < c → get_or own j 0 ≢ suc (o - 1)
      first j u e = let y = s.once j (o - 1) (omega arith) e in let z = s.once c (o - 1) l (owner some) in omega arith

      go : (q : ℕ) → (eqb q (o - 1) ≡ true) ⊎ (eqb q (o - 1) ≡ false) → cond (eqb q (o - 1)) (suc c) (stamp_at (entry own) c q (get_or cells q 0))
          ≡ stamp_at (entry own) (suc c) q (get_or cells q 0)
      go q (inl e) = let z : q ≡ o - 1 = eqb-true q (o - 1) e in rw (e, z) (sym (stamp-same (entry own) (o - 1) (get_or cells (o - 1) 0) c (owner some) first))
      go q (inr e) = let n = eqb-false q (o - 1) e in rw e (sym (stamp-other (entry own) q (get_or cells q 0) c (λ f. n (omega (arith, is.0)))))
