-- Tables of examples: what is asked, and what document 01 answers. A table holds where the definitions answer so in every line.
use Rattle.std.specs.Prelude.{◌≡◌, List, map, ℕ, ◌+◌, ◌*◌}
use Rattle.routes.specs.Said.{Said}

-- an address by its four bytes
abbrev pub ip : ℕ → ℕ → ℕ → ℕ → ℕ
ip a b c d = ((a * 256 + b) * 256 + c) * 256 + d

pub record Line (A : Type 0) : Type 0 where
  pub asked : A
  pub expected : Said

abbrev pub ◌gives◌ : {A : Type 0} → A → Said → Line A
q gives s = record { asked = q; expected = s }

infix 5 ◌gives◌
-- every line holds
unfoldable pub Hold : {A : Type 0} → (A → Said) → List (Line A) → Type 0
Hold {A} answer xs = map (λ (x : Line A). answer x.asked) xs ≡ map (λ (x : Line A). x.expected) xs
