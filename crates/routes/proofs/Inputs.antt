-- What each way through `check_input` and `route_at` says.
use mathlib.Core.Path.{◌≡◌, refl, sym, ◌∙◌}
use mathlib.Core.List.{List, [], ◌∷◌}
use mathlib.Core.Bool.{true, false}
use Prim.Native.Nat.{ℕ, ◌/◌, ◌%◌, ◌≤◌, ◌<◌}
use native.Mathlib.Omega.{arith}
use lib.ListN.{length, get_or}
use borrow.Author.Tests.{lt-ltb, le-ltb, eq-eqb, ne_eqb}
use Rattle.bits.specs.Search.{first_of}
use Rattle.bits.proofs.Searches.{first_of-is}
use Rattle.routes.specs.Record.{record_at, GoodInput}
use Rattle.std.specs.Prelude.{Some, None, Result, Ok, Err}
use Rattle.refusals.specs.Numbers.{number_of}
use Rattle.refusals.specs.declared.Refusal.{Refusal}
use Rattle.refusals.specs.declared.Refusal.TheVariants as refusal
use Rattle.refusals.specs.declared.Refused.{Refused}
use Rattle.routes.specs.Said.{accepted, said_by, told}
use Rattle.routes.specs.Input.{fault_at, is_bad, input_said}
use Rattle.routes.specs.Answers.{means_input, means_got, route_said}
use Rattle.routes.specs.declared.Route.{Route}
use Rattle.routes.proofs.Meaning.{input-good}
use Rattle.routes.proofs.Saids.{said-injective, and-then-told}
use Rattle.refusals.proofs.Numbers.{number-above_0}

module _ (s : List ℕ) where
  pub fine-at : (k f : ℕ) → f ≡ fault_at s k → f ≡ 0 → is_bad s k ≡ false
  fine-at k f e z = simp (eq-eqb (fault_at s k) 0 (sym e ∙ z))

  bad-at : (k f : ℕ) → f ≡ fault_at s k → (f ≡ 0 → ⊥) → is_bad s k ≡ true
  bad-at k f e z = simp (ne_eqb (fault_at s k) 0 (λ q. z (e ∙ q)))

  pub ragged : (length s % 8 ≡ 0 → ⊥) → means_input (Err (record { why = refusal.Record; at = Some (length s / 8) })) ≡ input_said s
  unfolding input_said said_by
  ragged h = simp (ne_eqb (length s % 8) 0 h)

  module _ (whole : length s % 8 ≡ 0) (k : ℕ) (fine : (j : ℕ) → j < k → is_bad s j ≡ false) where
    first-is : k ≤ length s / 8 → (k < length s / 8 → is_bad s k ≡ true) → first_of (is_bad s) (length s / 8) ≡ k
    first-is u h = first_of-is (is_bad s) (length s / 8) k u fine h

    pub stopped : (w : Refusal) → k < length s / 8 → number_of w ≡ fault_at s k → means_input (Err (record { why = w; at = Some k })) ≡ input_said s
    unfolding input_said said_by
    stopped w l e =
        simp (eq-eqb (length s % 8) 0 whole, first-is (omega arith) (λ _. bad-at k (number_of w) e (number-above_0 w)), lt-ltb k (length s / 8) l, ← e)

    module _ (u : k ≤ length s / 8) (l : length s / 8 ≤ k) where
      pub too_many : 4096 < length s / 8 → means_input (Err (record { why = refusal.Room; at = None })) ≡ input_said s
      unfolding input_said said_by
      too_many m = simp (
        eq-eqb (length s % 8) 0 whole,
        first-is u (λ (a : k < length s / 8). absurd (omega arith)),
        le-ltb k
            (length s / 8) l,
        lt-ltb 4096 (length s / 8) m,
      )

      pub good : length s / 8 ≤ 4096 → means_input (Ok (length s / 8)) ≡ input_said s
      unfolding input_said said_by
      good m = simp (
        eq-eqb (length s % 8) 0 whole,
        first-is u (λ (a : k < length s / 8). absurd (omega arith)),
        le-ltb k
            (length s / 8) l,
        le-ltb 4096 (length s / 8) m,
      )

-- what each arm of `route_at` says
module _ (s : List ℕ) (k : ℕ) where
  module _ (n : ℕ) (e : input_said s ≡ accepted (n ∷ [])) where
    records : n ≡ length s / 8
    records = let w = (input-good s n e).0 in omega arith

    pub got-one : (r : Route) → k < n → r ≡ record_at s k → means_got (Ok (Some r)) ≡ route_said s k
    unfolding route_said said_by
    got-one r l q = rw (q, e, lt-ltb k (length s / 8) (rw records at l))

    pub got-nothing : n ≤ k → means_got (Ok None) ≡ route_said s k
    unfolding route_said said_by
    got-nothing l = rw (e, le-ltb k (length s / 8) (rw records at l))

  pub got-refused : (e : Refused) → input_said s ≡ told e → means_got (Err e) ≡ route_said s k
  unfolding route_said said_by
  got-refused e q = rw q (sym (and-then-told e _))

-- two answers that are told the same are the same
pub input-injective : (x y : Result ℕ Refused) → means_input x ≡ means_input y → x ≡ y
input-injective = said-injective (λ n. n ∷ []) (λ vs. get_or vs 0 0) (λ n. refl)

-- what a caller of `check_input` knows by its arm
module _ (s : List ℕ) where
  pub input-ok : (n : ℕ) → means_input (Ok n) ≡ input_said s → input_said s ≡ accepted (n ∷ [])
  unfolding said_by
  input-ok n e = sym e

  pub input-err : (e : Refused) → means_input (Err e) ≡ input_said s → input_said s ≡ told e
  unfolding said_by
  input-err e q = sym q

  pub input-records : (n : ℕ) → means_input (Ok n) ≡ input_said s → GoodInput s n
  input-records n e = let g = input-good s n (input-ok n e) in record { records = g.1; whole = g.0 }
