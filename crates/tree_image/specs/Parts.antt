-- Lists by their parts.
use Rattle.std.specs.Prelude.{Bool, cond, List, [], ◌∷◌, ◌++◌, ℕ, zero, suc, ◌+◌, ◌-◌, length, replicate}

-- g of each number below n that passes the test, in order
unfoldable pub picked : {A : Type 0} → (ℕ → Bool) → (ℕ → A) → ℕ → List A
picked f g zero = []
picked f g (suc n) = picked f g n ++ cond (f n) (g n ∷ []) []

-- what F gives for each element, end to end
unfoldable pub gather : {A : Type 0} {B : Type 0} → (A → List B) → List A → List B
gather F [] = []
gather F (x ∷ xs) = F x ++ gather F xs

-- how many of these come from the first i elements
unfoldable pub before : {A : Type 0} {B : Type 0} → (A → List B) → List A → ℕ → ℕ
before F [] i = 0
before F (x ∷ xs) zero = 0
before F (x ∷ xs) (suc i) = length (F x) + before F xs i

-- the list and zeros after it, n in all
abbrev pub zero_padded : ℕ → List ℕ → List ℕ
zero_padded n xs = xs ++ replicate (n - length xs) 0
