-- The first number that passes a test, of so many from k on, and of those below n.
use Rattle.std.specs.Prelude.{ℕ, zero, suc, Bool, cond}

-- the first number from k on, of d numbers, that passes the test; k + d where none does
unfoldable pub first_from : (ℕ → Bool) → ℕ → ℕ → ℕ
first_from p zero k = k
first_from p (suc d) k = cond (p k) k (first_from p d (suc k))

-- the first number below n that passes the test; n where none does
unfoldable pub first_of : (ℕ → Bool) → ℕ → ℕ
first_of p n = first_from p n 0
