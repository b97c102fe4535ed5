-- The statements of a lookup in bit maps and of many, as predicates on what was given and what is answered (r), with the words at exit (ws) of many.
-- Each is its call's `ensures`, and that it leaves one answer is shown of it in proofs/OneAnswer.antt.
use Rattle.std.specs.Prelude.{List, ◌≡◌, ℕ, Option, Result}
use Rattle.basic.specs.Calls.{means_basic_found, means_basic_answer, basic_said, many, basic_many}
use Rattle.refusals.specs.declared.Refused.{Refused}

abbrev pub MeetsBasicLookup : List ℕ → List ℕ → List ℕ → ℕ → Result (Option ℕ) Refused → Type 0
MeetsBasicLookup input bits cells addr r = means_basic_found r ≡ basic_said input bits cells addr

abbrev pub MeetsBasicMany : List ℕ → List ℕ → List ℕ → List ℕ → List ℕ → Result (Unit {0}) Refused → List ℕ → Type 0
MeetsBasicMany input bits cells addrs words r ws = many (means_basic_answer r) ws ≡ basic_many input bits cells addrs words
