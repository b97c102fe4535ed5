-- Laws of good lists.
use mathlib.Core.Path.{◌≡◌}
use mathlib.Core.Logic.{◌⊎◌, inl, inr}
use mathlib.Core.List.Memᴰ
use mathlib.Core.List.{List, [], ◌∷◌, Memᴰ}
use Prim.Native.Nat.{ℕ, ◌≤◌}
use native.Mathlib.Omega.{arith}
use Rattle.routes.specs.Route.{key_of, Fine, Good}
use Rattle.routes.specs.declared.Route.{Route}

-- each route of a good list is fine
pub good-fine : (rs : List Route) → Good rs → (r : Route) → Memᴰ r rs → Fine r
unfolding Good
good-fine [] g r m = absurd (Memᴰ.not-nil m)
good-fine (x ∷ xs) g r m = go (Memᴰ.cases_cons m) (good-fine xs g.2 r)
  where
    go : (r ≡ x) ⊎ Memᴰ r xs → (Memᴰ r xs → Fine r) → Fine r
    go (inl q) ih = rw q g.0
    go (inr k) ih = ih k

-- a key tells address and length apart
pub key-parts : (a l b m : ℕ) → l ≤ 32 → m ≤ 32 → key_of a l ≡ key_of b m → (a ≡ b) × (l ≡ m)
key-parts a l b m h k e = (omega arith, omega arith)
