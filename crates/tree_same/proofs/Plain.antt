-- Marks put aside: a list without its marks is as good as the list.
use mathlib.Core.Path.{◌≡◌, refl}
use mathlib.Core.Logic.{◌⊎◌, inl, inr}
use mathlib.Core.List.Memᴰ
use mathlib.Core.List.{List, [], ◌∷◌, map, Memᴰ}
use native.Mathlib.Omega.{arith}
use Rattle.routes.specs.Route.{plain, Fine, Good}
use Rattle.routes.specs.declared.Route.{Route}

-- a member without its mark is one of the list's
pub plain-mem : (rs : List Route) (r : Route) → Memᴰ r (map plain rs) → (s : Route) × Memᴰ s rs × (r ≡ plain s)
plain-mem [] r m = absurd (Memᴰ.not-nil m)
plain-mem (x ∷ rs) r m = go (Memᴰ.cases_cons m) (plain-mem rs r)
  where
    go : (r ≡ plain x) ⊎ Memᴰ r (map plain rs) → (Memᴰ r (map plain rs) → (s : Route) × Memᴰ s rs × (r ≡ plain s))
        → (s : Route) × Memᴰ s (x ∷ rs) × (r ≡ plain s)
    go (inl e) ih = (x, Memᴰ.head refl, e)
    go (inr k) ih = let w = ih k in (w.0, Memᴰ.tail w.1, w.2)

plain-fine : (r : Route) → Fine r → Fine (plain r)
plain-fine r f = record { prefix = f.prefix; hop_one = f.hop_one; hop_ok = f.hop_ok; mark_ok = omega arith }

pub plain-good : (rs : List Route) → Good rs → Good (map plain rs)
unfolding Good
plain-good [] g = tt
plain-good (r ∷ rs) g = (plain-fine r g.0, (λ s m. let w = plain-mem rs s m in rw w.2 (g.1 w.0 w.1)), plain-good rs g.2)
