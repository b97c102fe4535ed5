-- A loop that compares tells of the elements before where it stands. Lists of one length whose elements agree are the same.
use mathlib.Core.Path.{◌≡◌, ap}
use mathlib.Core.Bool.{Bool, true, false, not}
use mathlib.Core.List.{List}
use Prim.Native.Nat.{ℕ, ◌+◌, ◌≤◌, ◌<◌, zero-le}
use native.Mathlib.Omega.{arith}
use lib.ListN.{length, get_or}
use lib.Seq.{ext_get_or}
use borrow.Author.Count.{below_none, below_more}
use Rattle.bits.specs.Number.{EqualIsSame}
use Rattle.bits.specs.Tab.{Tells}
use Rattle.bits.proofs.Numbers.{told_apart, told-same}
use Rattle.bits.proofs.Tells.{is-no, is-yes, tells-same}

-- the first n elements agree
pub record AgreeTo {A : Type 0} (d : A) (s t : List A) (n : ℕ) : Type 0 where
  pub each : (k : ℕ) → k < n → get_or s k d ≡ get_or t k d

-- the loop: b tells of the elements before j
pub record Agreeing {A : Type 0} (d : A) (s t : List A) (b : Bool) (j : ℕ) : Type 0 where
  pub long : length s ≡ length t
  pub within : j ≤ length s
  pub tells : Tells b (AgreeTo d s t j)

pub other_length : {A : Type 0} {s t : List A} → (length s ≡ length t → ⊥) → Tells false (s ≡ t)
other_length n = is-no (λ e. n (ap length e))

module _ {A : Type 0} {d : A} {s t : List A} where
  pub agreeing-none : length s ≡ length t → Agreeing d s t true 0
  agreeing-none e = record { long = e; within = zero-le; tells = is-yes (record { each = below_none _ }) }

  module _ {equal : A → A → Bool} {b : Bool} {j : ℕ} (law : EqualIsSame equal) (r : Agreeing d s t b j) (h : j < length s) where
    pub agreeing-stop : not (equal (get_or s j d) (get_or t j d)) ≡ true → Agreeing d s t false (j + 1)
    agreeing-stop n = record { long = r.long; within = omega arith; tells = is-no (λ a. told_apart law n (a.each j (omega arith))) }

    pub agreeing-more : not (equal (get_or s j d) (get_or t j d)) ≡ false → Agreeing d s t b (j + 1)
    agreeing-more n = record {
      long = r.long;
      within = omega arith;
      tells = tells-same
          (λ a. record { each = below_more (λ (k : ℕ). get_or s k d ≡ get_or t k d) j a.each (told-same law n) })
          (λ a. record { each = λ k l. a.each k (omega arith) }) r.tells;
    }

  pub agreeing-all : {b : Bool} {j : ℕ} → Agreeing d s t b j → length s ≤ j → Tells b (s ≡ t)
  agreeing-all r h = tells-same
      (λ a. ext_get_or d s t r.long (λ i l. a.each i (omega arith)))
      (λ q. record { each = λ k l. ap (λ (x : List A). get_or x k d) q }) r.tells
