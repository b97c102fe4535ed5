-- What `gh_tally` and `gh_lookup_many` leave in `out`, element by element; and the state that three numbers of a call stand for.
use mathlib.Core.Path.{◌≡◌, refl, ◌∙◌}
use mathlib.Core.Logic.{◌≢◌}
use mathlib.Core.Bool.{Bool, true, false, cond}
use mathlib.Core.List.{List, [], ◌∷◌}
use Prim.Native.Nat.{ℕ, ◌%◌, ◌^◌, ◌<◌}
use lib.Dec.{eqb}
use lib.ListN.{length, get_or, replicate}
use borrow.Author.Tests.{eq-eqb, ne_eqb}
use Rattle.bits.specs.Count.{count}
use Rattle.bits.specs.Tab.{tabulate}
use Rattle.bits.proofs.Tabs.{get_d_tabulate, length-tabulate}
use Rattle.routes.specs.Record.{record_at}
use Rattle.routes.specs.Input.{input_said}
use Rattle.routes.specs.Said.{accepted, accepts}
use Rattle.runs.specs.Tally.{tally_of}
use Rattle.runs.proofs.Tallies.{tally-count, tally-refused}
use Rattle.sail.specs.Lent.{Lent}
use Rattle.sail.specs.Sizes.{sizes_fault, Sized}
use Rattle.sail.specs.Walk.{lookup_said}
use Rattle.sail.specs.Word.{pack_found}
use Rattle.sail.specs.declared.table.Table.{Table}
use Rattle.sail.proofs.Fitting.{Fault, fault-is, none_is}
use Rattle.packing_inputs.specs.Tallies.{tally_card}
use Rattle.sail_words.specs.Lookups.{table_of, WordsCard, words_card, low_found, many_card}

-- the first number is p1, the second p2, the third the route count
pub table-parts : (p1 p2 n : ℕ) → ((table_of p1 p2 n).geometry.p1 ≡ p1) × ((table_of p1 p2 n).geometry.p2 ≡ p2) × ((table_of p1 p2 n).count ≡ n)
table-parts p1 p2 n = (refl, refl, refl)

-- The tally. With 33 words, word l is the number of records of length l; zeros where the input is refused. With any other number of words they
-- are as they were.
module _ (s xs : List ℕ) where
  tally-counts : length xs ≡ 33 → (tally_card s xs).out ≡ tally_of s
  unfolding tally_card
  tally-counts e = rw (eq-eqb (length xs) 33 e)

  pub gh-tally-out : length xs ≡ 33 → (n : ℕ) → input_said s ≡ accepted (n ∷ []) → (l : ℕ) → l < 33
      → get_or (tally_card s xs).out l 0 ≡ count (λ k. eqb (record_at s k).len l) n
  gh-tally-out e n good l h = rw (tally-counts e) (tally-count s n l good h)

  pub gh-tally-zeros : length xs ≡ 33 → accepts (input_said s) ≡ false → (tally_card s xs).out ≡ replicate 33 0
  gh-tally-zeros e bad = tally-counts e ∙ tally-refused s bad

  pub gh-tally-left : length xs ≢ 33 → (tally_card s xs).out ≡ xs
  unfolding tally_card
  gh-tally-left n = rw (ne_eqb (length xs) 33 n)

-- Many lookups. Where the sizes are right, and there is a word for each address, word k is the low 32 bits of the lookup of address k. Else all
-- words are as they were.
module _ (t : Table) (l : Lent) (ads xs : List ℕ) where
  pub gh-lookup-many-out : Sized t.geometry l → length xs ≡ length ads → (k : ℕ) → k < length ads
      → get_or (many_card t l ads xs).out k 0 ≡ pack_found (lookup_said t l (get_or ads k 0)) % 2 ^ 32
  unfolding many_card
  gh-lookup-many-out z e k h =
      rw (eq-eqb (sizes_fault t.geometry l) 0 (none_is t.geometry l z), eq-eqb (length xs) (length ads) e)
      (get_d_tabulate (length ads) (λ k. low_found t l (get_or ads k 0)) k 0 h)

  pub gh-lookup-many-length : Sized t.geometry l → length xs ≡ length ads → length (many_card t l ads xs).out ≡ length ads
  unfolding many_card
  gh-lookup-many-length z e =
      rw (eq-eqb (sizes_fault t.geometry l) 0 (none_is t.geometry l z), eq-eqb (length xs) (length ads) e)
      (length-tabulate (length ads) (λ k. low_found t l (get_or ads k 0)))

  pub gh-lookup-many-left : (many_card t l ads xs).answer ≢ 0 → (many_card t l ads xs).out ≡ xs
  unfolding many_card
  gh-lookup-many-left n = go (fault-is t.geometry l) (eqb (length xs) (length ads)) n
    where
      left : ℕ → Bool → WordsCard
      left f b = cond (eqb f 0) (cond b (words_card 0 (tabulate (length ads) (λ k. low_found t l (get_or ads k 0)))) (words_card 2 xs)) (words_card f xs)

      go : {f : ℕ} → Fault t.geometry l f → (b : Bool) → (left f b).answer ≢ 0 → (left f b).out ≡ xs
      go (Fault.none z) true n = absurd (n refl)
      go (Fault.none z) false n = refl
      go (Fault.limits h) b n = refl
      go (Fault.size v h) b n = refl
