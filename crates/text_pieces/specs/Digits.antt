-- A number in decimal: its digits in ASCII, the first the highest, with no zero in front.
use Rattle.std.specs.Prelude.{ℕ, zero, suc, ◌+◌, ◌-◌, ◌*◌, ◌/◌, ◌%◌, ◌≤◌, ◌<◌, Bool, true, false, List, [], ◌∷◌, ◌++◌, ◌≡◌, ltb, length, get_or}

-- the number that digits say, read from the first to the last, after the number v
unfoldable pub value_after : ℕ → List ℕ → ℕ
value_after v [] = v
value_after v (d ∷ ds) = value_after (v * 10 + (d - 48)) ds

-- ds is the number n in decimal
pub record Decimal (n : ℕ) (ds : List ℕ) : Type 0 where
  pub some : 0 < length ds
  -- `0` to `9`
  pub each : (i : ℕ) → i < length ds → (48 ≤ get_or ds i 0) × (get_or ds i 0 ≤ 57)
  -- no zero in front of other digits
  pub front : 1 < length ds → 49 ≤ get_or ds 0 0
  pub value : value_after 0 ds ≡ n

-- n in at most so many steps, and told whether it is below 10: one digit, or the digits of n / 10 and then that of n % 10
unfoldable pub digits_in : ℕ → Bool → ℕ → List ℕ
digits_in zero small n = (48 + n) ∷ []
digits_in (suc steps) true n = (48 + n) ∷ []
digits_in (suc steps) false n = digits_in steps (ltb (n / 10) 10) (n / 10) ++ ((48 + n % 10) ∷ [])

-- the digits of n: the one list that is n in decimal. n steps are enough
unfoldable pub digits_of : ℕ → List ℕ
digits_of n = digits_in n (ltb n 10) n
