-- The counts of a tally as words: there are 33 of them, also where the input is refused.
use mathlib.Core.Bool.{Bool, true, false, cond}
use mathlib.Core.Path.{◌≡◌, ◌∙◌, refl, ap}
use mathlib.Core.List.{List}
use Prim.Native.Nat.{ℕ, ◌/◌}
use borrow.Author.Tests.{eq-eqb, ne_eqb}
use lib.ListN.{length, replicate}
use Rattle.bits.proofs.Tabs.{length-tabulate}
use Rattle.bits.specs.Count.{count}
use Rattle.routes.specs.Said.{accepts}
use Rattle.routes.specs.Input.{input_said}
use Rattle.routes.specs.Answers.{means_input}
use Rattle.runs.specs.Tally.{IsTally, tally_of, lengths_of, has_length}
use Rattle.runs.specs.declared.tally.Tallied.{Tallied}
use Rattle.sail_words.specs.Lookups.{words_card}
use Rattle.packing.specs.Pack.{pack_none}
use Rattle.packing_inputs.specs.Tallies.{tally_card}

module _ (s xs : List ℕ) where
  pub tally-short : (length xs ≡ 33 → ⊥) → words_card 2 xs ≡ tally_card s xs
  unfolding tally_card
  tally-short n = rw (ne_eqb (length xs) 33 n)

  pub tally-all : length xs ≡ 33 → (t : Tallied) → IsTally s t → (ys : List ℕ) → ys ≡ t.counts
      → (r : ℕ) → r ≡ pack_none (means_input t.answer) → words_card r ys ≡ tally_card s xs
  unfolding tally_card
  tally-all n t is ys h r q =
      rw (eq-eqb (length xs) 33 n)
      (ap (λ (x : ℕ). words_card x ys) (q ∙ ap pack_none is.answered)
      ∙ ap (words_card (pack_none (input_said s))) (h ∙ is.counted))

-- there are 33 counts, also where the input is refused
cond-length : (b : Bool) (xs ys : List ℕ) (n : ℕ) → length xs ≡ n → length ys ≡ n → length (cond b xs ys) ≡ n
cond-length true xs ys n p q = p
cond-length false xs ys n p q = q

pub tally-length : (s : List ℕ) → length (tally_of s) ≡ 33
unfolding tally_of lengths_of
tally-length s =
    cond-length (accepts (input_said s)) (lengths_of s (length s / 8)) (replicate 33 0) 33
    (length-tabulate 33 (λ (l : ℕ). count (has_length s l) (length s / 8))) refl
