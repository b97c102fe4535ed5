-- How many routes stand after one is inserted or removed, and what a removed prefix leaves as it was.
use mathlib.Core.Path.{◌≡◌, refl, sym, ap}
use mathlib.Core.Logic.{◌⊎◌, inl, inr}
use mathlib.Core.Bool.{Bool, true, false, cond, true≢false}
use mathlib.Core.List.{List, [], ◌∷◌, Memᴰ}
use Prim.Native.Nat.{ℕ, suc, ◌≤◌, ◌<◌}
use native.Mathlib.Omega.{arith}
use lib.Dec.{eqb, ltb}
use lib.ListN.{length}
use borrow.Author.Tests.{eqb-true, ne_eqb}
use Rattle.bits.specs.Slot.{slot}
use Rattle.bits.proofs.Bools.{decided, or-none}
use Rattle.routes.specs.Route.{key, key_of, Good}
use Rattle.standing.specs.Cells.{any, long}
use Rattle.standing.specs.Standing.{is_at, stands, insert, remove}
use Rattle.routes.specs.declared.Route.{Route}
use Rattle.standing.proofs.Frame.{frame-long}
use Rattle.standing.proofs.Standing.{remove-but}

-- a cell in which the prefix does not lie keeps whether it is long
module _ (a l : ℕ) (rs : List Route) (w : l ≤ 32) (g : Good rs) (p i : ℕ) where
  pub remove-long : (p < l → slot p a ≡ i → ⊥) → long rs p i ≡ long (remove (key_of a l) rs) p i
  remove-long h = frame-long a l rs (remove (key_of a l) rs) (remove-but a l rs w g) p i h

-- one route more where the prefix did not stand
pub insert-adds : (r : Route) (rs : List Route) → stands (key r) rs ≡ false → length (insert r rs) ≡ suc (length rs)
unfolding insert any
insert-adds r [] e = refl
insert-adds r (x ∷ xs) e = let n = or-none (is_at (key r) x) (any (is_at (key r)) xs) e in rw n.0 (go (ltb (key r) (key x)) (insert-adds r xs n.1))
  where
    go : (b : Bool) → length (insert r xs) ≡ suc (length xs) → length (cond b (r ∷ x ∷ xs) (x ∷ insert r xs)) ≡ suc (suc (length xs))
    go true ih = refl
    go false ih = ap suc ih

-- nothing is taken out where it did not stand
pub remove_absent : (p : ℕ) (rs : List Route) → stands p rs ≡ false → remove p rs ≡ rs
unfolding remove any
remove_absent p [] e = refl
remove_absent p (x ∷ xs) e = let n = or-none (is_at p x) (any (is_at p) xs) e in rw (n.0, remove_absent p xs n.1)

none-later : (k : ℕ) (rs : List Route) → ((s : Route) → Memᴰ s rs → k < key s) → remove k rs ≡ rs
unfolding remove
none-later k [] h = refl
none-later k (s ∷ ss) h =
    let rest = none-later k ss (λ x m. h x (Memᴰ.tail m)) in
    rw (ne_eqb (key s) k (λ q. let z = h s (Memᴰ.head refl) in omega arith)) (ap (λ (l : List Route). s ∷ l) rest)

-- one route less where it stood
pub remove-takes : (k : ℕ) (rs : List Route) → Good rs → stands k rs ≡ true → suc (length (remove k rs)) ≡ length rs
unfolding remove any Good
remove-takes k [] g e = absurd (true≢false (sym e))
remove-takes k (s ∷ ss) g e = go (decided (eqb (key s) k)) (remove-takes k ss g.2)
  where
    go : (eqb (key s) k ≡ true) ⊎ (eqb (key s) k ≡ false) → (stands k ss ≡ true → suc (length (remove k ss)) ≡ length ss)
        → suc (length (cond (eqb (key s) k) (remove k ss) (s ∷ remove k ss))) ≡ suc (length ss)
    go (inl b) ih =
        let q = eqb-true (key s) k b in
        rw b (ap suc (ap length (none-later k ss (λ x m. omega (arith, g.1 x m)))))
    go (inr b) ih = rw b (ap suc (ih (rw b at e)))
