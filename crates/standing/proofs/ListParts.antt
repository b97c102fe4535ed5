-- The parts of a good list: its front is good, and all before a route have smaller keys. So a route that comes after all others did not
-- stand, and is inserted at the end.
use mathlib.Core.Path.{◌≡◌, refl, ◌∙◌, ap}
use mathlib.Core.Logic.{◌⊎◌, inl, inr}
use mathlib.Core.Bool.{Bool, true, false, ◌||◌, false≢true, or-true}
use mathlib.Core.List.Memᴰ
use mathlib.Core.List.{List, [], ◌∷◌, ◌++◌, Memᴰ}
use Prim.Native.Nat.{ℕ, ◌<◌}
use native.Mathlib.Omega.{arith}
use borrow.Author.Tests.{ne_eqb}
use Rattle.bits.proofs.Bools.{or_split}
use Rattle.routes.specs.Route.{key, Fine, Good}
use Rattle.standing.specs.Cells.{any}
use Rattle.standing.specs.Standing.{stands, insert}
use Rattle.routes.specs.declared.Route.{Route}
use Rattle.standing.proofs.Standing.{insert-after}

-- a part of a good list is good
pub good-front : (xs ys : List Route) → Good (xs ++ ys) → Good xs
unfolding Good
good-front [] ys g = tt
good-front (x ∷ xs) ys g = (g.0, (λ s m. g.1 s (Memᴰ.append_left ys m)), good-front xs ys g.2)

pub good-next : (xs : List Route) (r : Route) (ys : List Route) → Good (xs ++ r ∷ ys) → Fine r
unfolding Good
good-next [] r ys g = g.0
good-next (x ∷ xs) r ys g = good-next xs r ys g.2

pub good-below : (xs : List Route) (r : Route) (ys : List Route) → Good (xs ++ r ∷ ys) → (s : Route) → Memᴰ s xs → key s < key r
unfolding Good
good-below [] r ys g s m = absurd (Memᴰ.not-nil m)
good-below (x ∷ xs) r ys g s m = go (Memᴰ.cases_cons m) (good-below xs r ys g.2 s)
  where
    go : (s ≡ x) ⊎ Memᴰ s xs → (Memᴰ s xs → key s < key r) → key s < key r
    go (inl q) ih = rw q (g.1 r (Memᴰ.append_right xs (Memᴰ.head refl)))
    go (inr k) ih = ih k

-- a route after all others is inserted at the end, and did not stand
pub insert-end : (r : Route) (xs : List Route) → ((s : Route) → Memᴰ s xs → key s < key r) → insert r xs ≡ xs ++ (r ∷ [])
unfolding insert
insert-end r [] h = refl
insert-end r (x ∷ xs) h =
    insert-after r x xs (h x (Memᴰ.head refl)) ∙ ap (λ (l : List Route). x ∷ l) (insert-end r xs (λ s m. h s (Memᴰ.tail m)))

pub none-stands : (k : ℕ) (xs : List Route) → ((s : Route) → Memᴰ s xs → key s < k) → stands k xs ≡ false
unfolding any
none-stands k [] h = refl
none-stands k (x ∷ xs) h =
    rw (ne_eqb (key x) k (λ q. let z = h x (Memᴰ.head refl) in omega arith)) (none-stands k xs (λ s m. h s (Memᴰ.tail m)))

-- some route of the front passes the test
pub any-front : (f : Route → Bool) (xs ys : List Route) → any f xs ≡ true → any f (xs ++ ys) ≡ true
unfolding any
any-front f [] ys e = absurd (false≢true e)
any-front f (x ∷ xs) ys e = go (or_split (f x) (any f xs) e) (any-front f xs ys)
  where
    go : (f x ≡ true) ⊎ (any f xs ≡ true) → (any f xs ≡ true → any f (xs ++ ys) ≡ true) → (f x || any f (xs ++ ys)) ≡ true
    go (inl q) ih = rw q
    go (inr q) ih = rw (ih q) (or-true (f x))

pub any_some : (f : Route → Bool) (rs : List Route) (P : Type 0) → any f rs ≡ true → ((s : Route) → Memᴰ s rs → f s ≡ true → P) → P
unfolding any
any_some f [] P e h = absurd (false≢true e)
any_some f (r ∷ rs) P e h = go (or_split (f r) (any f rs) e) (any_some f rs P)
  where
    go : (f r ≡ true) ⊎ (any f rs ≡ true) → (any f rs ≡ true → ((s : Route) → Memᴰ s rs → f s ≡ true → P) → P) → P
    go (inl q) ih = h r (Memᴰ.head refl) q
    go (inr q) ih = ih q (λ s m. h s (Memᴰ.tail m))
