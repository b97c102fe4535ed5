-- The needs of a good list, counted in one pass: a route longer than p needs a chunk more exactly where its cell is not that of the last
-- route before it that is longer than p. The routes come in order, so a cell that is long already and is not passed yet is the last.
use mathlib.Core.Path.{◌≡◌, refl, sym, ◌∙◌}
use mathlib.Core.Logic.{◌⊎◌, inl, inr, ◌≢◌}
use mathlib.Core.Bool.{true, false, cond, true≢false, false≢true, or-true}
use mathlib.Core.List.{List, [], ◌∷◌, ◌++◌, Memᴰ}
use Prim.Native.Nat.{ℕ, zero, suc, ◌-◌, ◌≤◌, ◌<◌}
use native.Mathlib.Omega.{arith}
use native.Mathlib.Nat.{le_refl, le_trans}
use lib.Dec.{eqb, ltb}
use lib.Pow.{shr_mono}
use borrow.Author.Tests.{le-ltb, lt-ltb, eqb-true, eq-eqb}
use Rattle.bits.specs.Slot.{slot}
use Rattle.bits.proofs.Bools.{decided, and_split, or_split, untrue}
use Rattle.routes.specs.Route.{key, Fine, Good}
use Rattle.standing.specs.Cells.{any, within, long, need}
use Rattle.standing.specs.Standing.{insert}
use Rattle.routes.specs.declared.Route.{Route}
use Rattle.routes.proofs.Goods.{good-fine}
use Rattle.sail_need.specs.LastLong.{last_long}
use Rattle.standing.proofs.ListParts.{good-front, good-next, good-below, insert-end, any_some}
use Rattle.standing.proofs.NeedAfter.{need-more, need-same}

-- a long cell of routes up to r is no later than r's
pub long-top : (r : Route) (rs : List Route) (p i : ℕ) → r.len ≤ 32 → ((s : Route) → Memᴰ s rs → (key s ≤ key r) × (s.len ≤ 32))
    → long rs p i ≡ true → i ≤ slot p r.addr
long-top r rs p i w h e = any_some (within p i) rs (i ≤ slot p r.addr) e (λ s m t.
    let c = eqb-true (slot p s.addr) i (and_split (ltb p s.len) (eqb (slot p s.addr) i) t).1 in
    let k = h s m in
    let a : s.addr ≤ r.addr = omega (arith, k.0, k.1) in
    omega (arith, c, shr_mono (32 - p) a))

pub last_snoc : (p d : ℕ) (xs : List Route) (r : Route) → last_long p d (xs ++ (r ∷ [])) ≡ cond (ltb p r.len) (suc (slot p r.addr)) (last_long p d xs)
unfolding last_long
last_snoc p d [] r = refl
last_snoc p d (x ∷ xs) r = last_snoc p (cond (ltb p x.len) (suc (slot p x.addr)) d) xs r

-- what is kept after the route x, where d was kept
abbrev latest : ℕ → ℕ → Route → ℕ
latest p d x = cond (ltb p x.len) (suc (slot p x.addr)) d

-- it is the cell of a long route, or what it was
last-long : (p d : ℕ) (xs : List Route) (j : ℕ) → last_long p d xs ≡ suc j → (d ≡ suc j) ⊎ (long xs p j ≡ true)
unfolding last_long any
last-long p d [] j e = inl e
last-long p d (x ∷ xs) j e = go (decided (ltb p x.len)) (last-long p (latest p d x) xs j e)
  where
    go : (ltb p x.len ≡ true) ⊎ (ltb p x.len ≡ false) → (latest p d x ≡ suc j) ⊎ (long xs p j ≡ true)
        → (d ≡ suc j) ⊎ (long (x ∷ xs) p j ≡ true)
    go b (inr k) = inr (rw k (or-true (within p j x)))
    go (inl b) (inl k) =
        let q : suc (slot p x.addr) ≡ suc j = rw b at k in
        let z : slot p x.addr ≡ j = omega arith in
        inr (rw (b, z, eq-eqb j j refl))
    go (inr b) (inl k) = inl (rw b at k)

-- later routes have no earlier cells
key-slot : (p : ℕ) (x y : Route) → key x < key y → x.len ≤ 32 → y.len ≤ 32 → slot p x.addr ≤ slot p y.addr
key-slot p x y h k l = shr_mono (32 - p) (omega arith)

last-le : (p d : ℕ) (xs : List Route) → ((s : Route) → Memᴰ s xs → d ≤ suc (slot p s.addr)) → Good xs → d ≤ last_long p d xs
unfolding last_long Good
last-le p d [] h g = le_refl d
last-le p d (x ∷ xs) h g = go (decided (ltb p x.len)) (last-le p (latest p d x) xs)
  where
    here : d ≤ suc (slot p x.addr)
    here = h x (Memᴰ.head refl)

    later : (s : Route) → Memᴰ s xs → slot p x.addr ≤ slot p s.addr
    later s m = key-slot p x s (g.1 s m) g.0.prefix.len_ok (good-fine xs g.2 s m).prefix.len_ok

    go : (ltb p x.len ≡ true) ⊎ (ltb p x.len ≡ false)
        → (((s : Route) → Memᴰ s xs → latest p d x ≤ suc (slot p s.addr)) → Good xs → latest p d x ≤ last_long p (latest p d x) xs)
        → d ≤ last_long p (latest p d x) xs
    go (inl b) ih = let k = rw b at (ih (λ s m. rw b (let z = later s m in omega arith)) g.2) in rw b (omega (arith, here, k))
    go (inr b) ih = let k = rw b at (ih (λ s m. rw b (h s (Memᴰ.tail m))) g.2) in rw b k

-- a long cell comes no later than the last
last-top : (p d : ℕ) (xs : List Route) (i : ℕ) → Good xs → long xs p i ≡ true → i < last_long p d xs
unfolding last_long any Good
last-top p d [] i g e = absurd (false≢true e)
last-top p d (x ∷ xs) i g e = go (or_split (within p i x) (long xs p i) e) (last-top p (latest p d x) xs i g.2)
  where
    go : (within p i x ≡ true) ⊎ (long xs p i ≡ true) → (long xs p i ≡ true → i < last_long p (latest p d x) xs) → i < last_long p (latest p d x) xs
    go (inr k) ih = ih k
    go (inl w) ih =
        let s = and_split (ltb p x.len) (eqb (slot p x.addr) i) w in
        let c = eqb-true (slot p x.addr) i s.1 in
        rw s.0 (le_trans (rw c (le_refl (suc i))) (last-le p (suc (slot p x.addr)) xs (λ y m.
        let z = key-slot p x y (g.1 y m) g.0.prefix.len_ok (good-fine xs g.2 y m).prefix.len_ok in
        omega arith) g.2))

-- The next route r of a good list.
module _ (xs : List Route) (r : Route) (ys : List Route) (good : Good (xs ++ r ∷ ys)) (p : ℕ) (h : p ≤ 32) where
  before : (s : Route) → Memᴰ s xs → (key s ≤ key r) × (s.len ≤ 32)
  before s m = (omega (arith, good-below xs r ys good s m), (good-fine xs (good-front xs (r ∷ ys) good) s m).prefix.len_ok)

  -- its cell is long already exactly where it is that of the last long route
  had-long : last_long p 0 xs ≡ suc (slot p r.addr) → long xs p (slot p r.addr) ≡ true
  had-long e = go (last-long p 0 xs (slot p r.addr) e)
    where
      go : (0 ≡ suc (slot p r.addr)) ⊎ (long xs p (slot p r.addr) ≡ true) → long xs p (slot p r.addr) ≡ true
      go (inl z) = absurd (omega arith)
      go (inr z) = z

  long-had : long xs p (slot p r.addr) ≡ true → last_long p 0 xs ≡ suc (slot p r.addr)
  long-had e = go (last_long p 0 xs) refl (last-top p 0 xs (slot p r.addr) (good-front xs (r ∷ ys) good) e)
    where
      go : (n : ℕ) → last_long p 0 xs ≡ n → slot p r.addr < n → n ≡ suc (slot p r.addr)
      go zero q l = absurd (omega arith)
      go (suc j) q l = at (last-long p 0 xs j q)
        where
          at : (0 ≡ suc j) ⊎ (long xs p j ≡ true) → suc j ≡ suc (slot p r.addr)
          at (inl z) = absurd (omega arith)
          at (inr z) = let k = long-top r xs p j (good-next xs r ys good).prefix.len_ok before z in omega arith

  ended : insert r xs ≡ xs ++ (r ∷ [])
  ended = insert-end r xs (good-below xs r ys good)

  fine : Fine r
  fine = good-next xs r ys good

  front : Good xs
  front = good-front xs (r ∷ ys) good

  pub need-short : r.len ≤ p → need (xs ++ (r ∷ [])) p ≡ need xs p
  need-short l = rw ended at (need-same r xs fine front p h (λ z. absurd (true≢false (sym z ∙ le-ltb p r.len l))))

  pub need-had : last_long p 0 xs ≡ suc (slot p r.addr) → need (xs ++ (r ∷ [])) p ≡ need xs p
  need-had e = rw ended at (need-same r xs fine front p h (λ z. had-long e))

  pub need-new : p < r.len → last_long p 0 xs ≢ suc (slot p r.addr) → need (xs ++ (r ∷ [])) p ≡ suc (need xs p)
  need-new l n = rw ended at (need-more r xs fine front p h (lt-ltb p r.len l) (untrue _ (λ e. n (long-had e))))
