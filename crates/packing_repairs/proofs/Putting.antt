-- A repair's number is read back, with the route count; and its words hold what it told.
use mathlib.Core.Path.{◌≡◌, refl, ap, ◌∙◌}
use mathlib.Core.Bool.{Bool, true, false, cond}
use mathlib.Core.Logic.{◌⊎◌, inl, inr}
use mathlib.Core.List.{List, [], ◌∷◌}
use Prim.Native.Nat.{ℕ, ◌*◌, ◌^◌, ◌≤◌, ◌<◌}
use native.Mathlib.Omega.{arith}
use lib.ListN.{length, set}
use borrow.Author.Tests.{eq-eqb, ne_eqb}
use Rattle.std.specs.Prelude.{Option, Some, None, Result, Ok, Err, eqb}
use Rattle.refusals.specs.Numbers.{fault_of}
use Rattle.refusals.specs.declared.Refusal.{Refusal}
use Rattle.refusals.specs.declared.Refusal.TheVariants.{Size}
use Rattle.refusals.proofs.Numbers.{number-not_0}
use Rattle.bits.proofs.Bools.{equal?}
use Rattle.routes.specs.Said.{Said, accepted, refused, refused_at, refused_by}
use Rattle.numbered.specs.declared.ByNumber.{ByNumber}
use Rattle.numbered.specs.Numbers.{number_alone, told_so, said_numbered}
use Rattle.sail.specs.Word.{packed}
use Rattle.packing.specs.Unpack.{field, refusal_of, unpacked, no_values, unpack_none, count_of}
use Rattle.packing_repairs.specs.Repairs.{pack_count, words_fault, words_said}

-- What is reported of sizes and words: a refusal of the sizes stays as it was; else the number of words decides.
pub refusal-stays : (e : ByNumber) (n : ℕ) → told_so e ≡ words_said (told_so e) n
refusal-stays e n = go e.at
  where
    go : (o : Option ℕ) → refused_by e.number o ≡ words_said (refused_by e.number o) n
    go None = refl
    go (Some k) = refl

pub words_wrong-told : (n : ℕ) (e : ByNumber) → (n ≡ 4 → ⊥) → e ≡ number_alone Size → told_so e ≡ words_said (accepted []) n
words_wrong-told n e h is = rw (is, ne_eqb n 4 h)

pub words_right-told : (n : ℕ) → n ≡ 4 → accepted [] ≡ words_said (accepted []) n
words_right-told n h = rw (eq-eqb n 4 h)

module _ (z n : ℕ) where
  pub sizes-first : (z ≡ 0 → ⊥) → z ≡ words_fault z n
  unfolding words_fault
  sizes-first h = rw (ne_eqb z 0 h)

  module _ (e : z ≡ 0) where
    pub words-wrong : (n ≡ 4 → ⊥) → 2 ≡ words_fault z n
    unfolding words_fault
    words-wrong h = rw (eq-eqb z 0 e, ne_eqb n 4 h)

    pub words_right : n ≡ 4 → 0 ≡ words_fault z n
    unfolding words_fault
    words_right h = rw (eq-eqb z 0 e, eq-eqb n 4 h)

-- Of one of the refusals, whose number is not 0, the number of what is told is `words_fault`.
abbrev number_told : Said → ℕ
number_told (accepted vs) = 0
number_told (refused n) = n
number_told (refused_at n k) = n

words-number : (b : Bool) → number_told (cond b (accepted []) (refused 2)) ≡ cond b 0 2
words-number true = refl
words-number false = refl

module _ {A : Type 0} (values : A → List ℕ) where
  fault-told : (r : Result A Refusal) → fault_of r ≡ number_told (said_numbered number_alone values r)
  unfolding said_numbered
  fault-told (Ok v) = refl
  fault-told (Err why) = refl

  told-fault : (s : Result A Refusal) (n : ℕ) → number_told (words_said (said_numbered number_alone values s) n) ≡ words_fault (fault_of s) n
  unfolding said_numbered words_fault
  told-fault (Ok v) n = words-number (eqb n 4)
  told-fault (Err why) n = rw (number-not_0 why)

  pub fault_of_words : (s r : Result A Refusal) (n : ℕ) → said_numbered number_alone values r ≡ words_said (said_numbered number_alone values s) n
      → fault_of r ≡ words_fault (fault_of s) n
  fault_of_words s r n e = fault-told r ∙ (ap number_told e ∙ told-fault s n)

-- nothing is wrong: not with the sizes, and there are four words
pub fault-none : (z n : ℕ) → words_fault z n ≡ 0 → (z ≡ 0) × (n ≡ 4)
fault-none z n e = go (equal? z 0) (equal? n 4)
  where
    go : (z ≡ 0) ⊎ (z ≡ 0 → ⊥) → (n ≡ 4) ⊎ (n ≡ 4 → ⊥) → (z ≡ 0) × (n ≡ 4)
    go (inr a) b = absurd (a (sizes-first z n a ∙ e))
    go (inl a) (inl b) = (a, b)
    go (inl a) (inr b) = absurd (omega (arith, words-wrong z n a b))

-- four stores to four words
pub four-set : (xs : List ℕ) (a b c d : ℕ) → length xs ≡ 4 → set (set (set (set xs 0 a) 1 b) 2 c) 3 d ≡ a ∷ b ∷ c ∷ d ∷ []
four-set [] a b c d e = absurd (omega arith)
four-set (x ∷ []) a b c d e = absurd (omega arith)
four-set (x ∷ y ∷ []) a b c d e = absurd (omega arith)
four-set (x ∷ y ∷ z ∷ []) a b c d e = absurd (omega arith)
four-set (x ∷ y ∷ z ∷ w ∷ []) a b c d e = refl
four-set (x ∷ y ∷ z ∷ w ∷ v ∷ xs) a b c d e = absurd (omega arith)

-- an accepted answer: nothing is in the number but the count
pub count-read : (count : ℕ) (vs : List ℕ) → count < 2 ^ 16
    → (unpack_none (pack_count count (accepted vs)) ≡ accepted []) × (count_of (pack_count count (accepted vs)) ≡ count)
unfolding packed unpacked no_values
count-read count vs h =
    let z : field 0 8 (count * 65536) ≡ 0 = omega arith in
    (rw (eq-eqb (field 0 8 (count * 65536)) 0 z), omega arith)

-- and a refusal is its number
pub refusal-read : (count n : ℕ) → 1 ≤ n → n < 2 ^ 8 → unpack_none (pack_count count (refused n)) ≡ refused n
unfolding packed unpacked refusal_of
refusal-read count n a b =
    let f : field 0 8 n ≡ n = omega arith in
    let g : field 8 1 n ≡ 0 = omega arith in
    rw (f, g, ne_eqb n 0 (λ z. omega arith))
