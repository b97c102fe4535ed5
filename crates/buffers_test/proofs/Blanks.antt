-- A loop that looks for zeros tells of the range up to where it stands: one more zero leaves the answer, and anything else ends it.
use mathlib.Core.Path.{◌≡◌}
use mathlib.Core.Bool.{Bool, true, false, not}
use mathlib.Core.List.{List}
use Prim.Native.Nat.{ℕ, ◌+◌, ◌≤◌, ◌<◌}
use native.Mathlib.Nat.{le_refl}
use native.Mathlib.Omega.{arith}
use lib.ListN.{get_or}
use borrow.Author.Count.{below_more}
use Rattle.bits.specs.Number.{EqualIsSame}
use Rattle.bits.specs.Tab.{Tells}
use Rattle.bits.proofs.Numbers.{told_apart, told-same}
use Rattle.bits.proofs.Tells.{is-no, is-yes, tells-same}
use Rattle.buffers_test.specs.Zeros.{AllZero}

-- the loop: b tells of the range up to j
pub record Looking {A : Type 0} (zero : A) (s : List A) (from to : ℕ) (b : Bool) (j : ℕ) : Type 0 where
  pub begun : from ≤ j
  pub within : j ≤ to
  pub tells : Tells b (AllZero zero s from j)

module _ {A : Type 0} {zero : A} {s : List A} {from to : ℕ} where
  pub looking-none : from ≤ to → Looking zero s from to true from
  looking-none h = record { begun = le_refl from; within = h; tells = is-yes (record { each = λ k l u. absurd (omega arith) }) }

  module _ {equal : A → A → Bool} {b : Bool} {j : ℕ} (law : EqualIsSame equal) (r : Looking zero s from to b j) (t : j < to) where
    pub looking-stop : not (equal (get_or s j zero) zero) ≡ true → Looking zero s from to false (j + 1)
    looking-stop n = record {
      begun = let l = r.begun in omega arith;
      within = omega arith;
      tells = is-no (λ z. told_apart law n (z.each j r.begun (omega arith)));
    }

    pub looking-more : not (equal (get_or s j zero) zero) ≡ false → Looking zero s from to b (j + 1)
    looking-more n = record {
      begun = let l = r.begun in omega arith;
      within = omega arith;
      tells = tells-same
          (λ z. record {
            each = λ k l u. below_more (λ (i : ℕ). from ≤ i → get_or s i zero ≡ zero) j (λ i v a. z.each i a v) (λ _. told-same law n) k u l;
          })
          (λ z. record { each = λ k l u. z.each k l (omega arith) }) r.tells;
    }

  pub looking-all : {b : Bool} {j : ℕ} → Looking zero s from to b j → to ≤ j → Tells b (AllZero zero s from to)
  looking-all {b} {j} r t = let q : j ≡ to = omega (arith, r.within) in rw q at r.tells
