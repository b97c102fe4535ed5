-- Laws of the tally: one more record, the counts together are the number of records, and marks have no part in it.
use mathlib.Core.Path.{◌≡◌, refl, sym, ap, ◌∙◌}
use mathlib.Core.Logic.{◌⊎◌, inl, inr}
use mathlib.Core.Bool.{Bool, true, false, cond}
use mathlib.Core.List.{List, [], ◌∷◌}
use Prim.Native.Nat.{ℕ, zero, suc, ◌+◌, ◌/◌, ◌≤◌, ◌<◌, zero-le}
use native.Mathlib.Nat.{le_refl, le_step}
use native.Mathlib.Numerals.{add-one}
use native.Mathlib.Omega.{arith}
use lib.Dec.{eqb}
use lib.ListN.{length, get_or, set, replicate}
use borrow.Author.Tests.{eqb-true, eqb-false, eq-eqb, ne_eqb}
use Rattle.bits.specs.Tab.{tabulate}
use Rattle.bits.specs.Count.{bit, count}
use Rattle.bits.proofs.Bools.{decided, below?}
use Rattle.bits.proofs.Counts.{count-ext}
use Rattle.bits.proofs.Tabs.{get_d_tabulate, tabulate-ext, set-tabulate}
use Rattle.routes.specs.Route.{plain}
use Rattle.routes.specs.Record.{record_at, Records}
use Rattle.routes.specs.Said.{accepted, accepts}
use Rattle.routes.specs.Input.{input_said}
use Rattle.routes.specs.Answers.{means_input}
use Rattle.routes.specs.declared.Route.{Route}
use Rattle.std.specs.Prelude.{Ok, Err}
use Rattle.refusals.specs.declared.Refused.{Refused}
use Rattle.routes.proofs.Meaning.{input-good}
use Rattle.routes.proofs.Inputs.{input-ok, input-err}
use Rattle.routes.proofs.Saids.{told-off}
use Rattle.runs.specs.Tally.{has_length, lengths_of, tally_of, sum_below}

count-le : (f : ℕ → Bool) (n : ℕ) → count f n ≤ n
unfolding count
count-le f zero = zero-le
count-le f (suc n) = go (f n) (count-le f n)
  where
    go : (b : Bool) → count f n ≤ n → bit b + count f n ≤ suc n
    go true h = omega arith
    go false h = omega arith

-- records that differ in their marks alone have the same lengths
pub tally-unmarked : (s u : List ℕ) (n : ℕ) → ((k : ℕ) → k < n → plain (record_at s k) ≡ plain (record_at u k)) → lengths_of s n ≡ lengths_of u n
unfolding lengths_of
tally-unmarked s u n same = tabulate-ext 33 _ _ (λ l h. count-ext (has_length s l) (has_length u l) n (λ k i. ap (λ (r : Route). eqb r.len l) (same k i)))

module _ (s : List ℕ) where
  -- no record yet
  pub lengths_none : replicate 33 0 ≡ lengths_of s 0
  unfolding lengths_of tabulate count
  lengths_none = refl

  length-count : (k l : ℕ) → l < 33 → get_or (lengths_of s k) l 0 ≡ count (has_length s l) k
  unfolding lengths_of
  length-count k l h = get_d_tabulate 33 (λ l. count (has_length s l) k) l 0 h

  pub length-few : (k l : ℕ) → l < 33 → get_or (lengths_of s k) l 0 ≤ k
  length-few k l h = rw (length-count k l h) (count-le (has_length s l) k)

  -- one more record: its length is counted once more, and no other
  counted : (k i : ℕ) → count (has_length s i) (k + 1) ≡ bit (has_length s i k) + count (has_length s i) k
  unfolding count
  counted k i = rw (add-one k)

  step : (k l : ℕ) → l ≡ (record_at s k).len → l < 33 → (i : ℕ) → (eqb i l ≡ true) ⊎ (eqb i l ≡ false) → cond (eqb i l) (get_or (lengths_of s k) l 0 + 1)
      (count (has_length s i) k) ≡ count (has_length s i) (k + 1)
  step k l e h i (inl q) =
      let z = eqb-true i l q in
      rw q (omega (arith, length-count k l h, counted k i, ap (λ (j : ℕ). count (has_length s j) k) z, ap bit (eq-eqb (record_at s k).len i (sym (z ∙ e)))))
  step k l e h i (inr q) =
      rw q (omega (arith, counted k i, ap bit (ne_eqb (record_at s k).len i (λ w. eqb-false i l q (sym w ∙ sym e)))))

  pub one_more : (k l : ℕ) → l ≡ (record_at s k).len → l < 33 → set (lengths_of s k) l (get_or (lengths_of s k) l 0 + 1) ≡ lengths_of s (k + 1)
  unfolding lengths_of
  one_more k l e h =
      set-tabulate 33 (λ i. count (has_length s i) k) l (get_or (lengths_of s k) l 0 + 1)
      ∙ tabulate-ext 33 (λ i. cond (eqb i l) (get_or (lengths_of s k) l 0 + 1) (count (has_length s i) k)) (λ i. count (has_length s i) (k + 1))
      (λ i u. step k l e h i (decided (eqb i l)))

-- the counts are those of a good input's records, and zeros where the input is refused
module _ (s : List ℕ) where
  pub tally-good : (n : ℕ) → input_said s ≡ accepted (n ∷ []) → tally_of s ≡ lengths_of s n
  unfolding tally_of
  tally-good n e =
      let w = (input-good s n e).0 in
      let d : length s / 8 ≡ n = omega arith in
      rw (e, d)

  pub tally-refused : accepts (input_said s) ≡ false → tally_of s ≡ replicate 33 0
  unfolding tally_of
  tally-refused e = rw e

  pub good-counts : (n : ℕ) (cs : List ℕ) → means_input (Ok n) ≡ input_said s → cs ≡ lengths_of s n → cs ≡ tally_of s
  good-counts n cs e c = c ∙ sym (tally-good n (input-ok s n e))

  pub no-counts : (w : Refused) → means_input (Err w) ≡ input_said s → replicate 33 0 ≡ tally_of s
  no-counts w e = sym (tally-refused (rw (input-err s w e) (told-off w)))

-- sums
sum-ext : (f g : ℕ → ℕ) (n : ℕ) → ((i : ℕ) → i < n → f i ≡ g i) → sum_below f n ≡ sum_below g n
unfolding sum_below
sum-ext f g zero h = refl
sum-ext f g (suc n) h = rw (h n (le_refl (suc n)), sum-ext f g n (λ i l. h i (le_step l)))

sum-add : (f g : ℕ → ℕ) (n : ℕ) → sum_below (λ i. f i + g i) n ≡ sum_below f n + sum_below g n
unfolding sum_below
sum-add f g zero = refl
sum-add f g (suc n) = omega (arith, sum-add f g n)

sum-zero : (n : ℕ) → sum_below (λ i. 0) n ≡ 0
unfolding sum_below
sum-zero zero = refl
sum-zero (suc n) = omega (arith, sum-zero n)

-- a number below n is met once
sum-bit : (x n : ℕ) → x < n → sum_below (λ i. bit (eqb x i)) n ≡ 1
unfolding sum_below
sum-bit x zero h = absurd (omega arith)
sum-bit x (suc n) h = go (below? x n) (sum-bit x n)
  where
    go : (x < n) ⊎ (n ≤ x) → (x < n → sum_below (λ i. bit (eqb x i)) n ≡ 1) → bit (eqb x n) + sum_below (λ i. bit (eqb x i)) n ≡ 1
    go (inl l) ih = omega (arith, ih l, ap bit (ne_eqb x n (λ (e : x ≡ n). omega arith)))
    go (inr l) ih =
        omega (
          arith,
          ap bit (eq-eqb x n (omega arith)),
          sum-ext (λ i. bit (eqb x i)) (λ i. 0) n
              (λ i u. ap bit (ne_eqb x i (λ (e : x ≡ i). omega arith))),
          sum-zero n,
        )

-- the counts of a good input add up to its number of records
module _ (s : List ℕ) (n : ℕ) (r : Records s n) where
  sums : (m : ℕ) → m ≤ n → sum_below (λ l. count (has_length s l) m) 33 ≡ m
  unfolding count
  sums zero h = sum-zero 33
  sums (suc m) h =
      omega (
        arith,
        sum-add (λ l. bit (has_length s l m)) (λ l. count (has_length s l) m) 33,
        sum-bit (record_at s m).len 33
            (omega (arith, (r.each m h).prefix.len_ok)),
        sums m (omega arith),
      )

-- "a count for each of the 33 lengths": count l is that of the records whose length byte is l
pub tally-count : (s : List ℕ) (n l : ℕ) → input_said s ≡ accepted (n ∷ []) → l < 33 → get_or (tally_of s) l 0 ≡ count (λ k. eqb (record_at s k).len l) n
tally-count s n l e h = rw (tally-good s n e) (length-count s n l h)

-- and together they are all records
pub tally-sum : (s : List ℕ) (n : ℕ) → input_said s ≡ accepted (n ∷ []) → sum_below (λ l. get_or (tally_of s) l 0) 33 ≡ n
tally-sum s n e =
    sum-ext (λ l. get_or (tally_of s) l 0) (λ l. count (has_length s l) n) 33 (λ l h. tally-count s n l e h) ∙ sums s n (input-good s n e).1 n (omega arith)
