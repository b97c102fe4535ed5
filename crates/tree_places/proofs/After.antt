-- What is known after a step of an edit.
use mathlib.Core.Path.{◌≡◌, ◌∙◌, ap}
use mathlib.Core.List.{List}
use Prim.Native.Nat.{ℕ}

-- what the edit found, and the list that its steps so far leave

pub record After (A : Type 0) (f : A → List ℕ) : Type 0 where
  pub found : A
  pub list : List ℕ
  pub is : list ≡ f found

abbrev pub after_first : {A : Type 0} {f : A → List ℕ} (a : A) {l : List ℕ} → l ≡ f a → After A f
after_first a {l} e = record { found = a; list = l; is = e }

-- one step more
abbrev pub after_next : {A : Type 0} {f : A → List ℕ} (g : A → List ℕ → List ℕ) (s : After A f) {l : List ℕ} → l ≡ g s.found s.list → After A
    (λ a. g a (f a))
after_next g s {l} e = record { found = s.found; list = l; is = e ∙ ap (g s.found) s.is }
