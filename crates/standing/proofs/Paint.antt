-- In an ascending list the last route that covers a cell is the longest: `best` is what painting the routes in order leaves.
use mathlib.Core.Path.{◌≡◌, refl, sym, ◌∙◌, ap}
use mathlib.Core.Logic.{◌⊎◌, inl, inr}
use mathlib.Core.Bool.{Bool, true, false, cond, true≢false}
use mathlib.Core.List.Memᴰ
use mathlib.Core.List.{List, [], ◌∷◌, Memᴰ}
use Prim.Native.Nat.{ℕ, ◌+◌, ◌-◌, ◌*◌, ◌/◌, ◌^◌, ◌≤◌}
use native.Mathlib.Omega.{arith}
use lib.Pow.{shr-shr}
use Rattle.routes.specs.Route.{key, Fine, Good}
use Rattle.standing.specs.Cells.{covers, best, Best, last_hop}
use Rattle.routes.specs.declared.Route.{Route}
use Rattle.bits.specs.Slot.{slot, cut}
use Rattle.bits.proofs.Bools.{decided}
use Rattle.bits.proofs.Slots.{slot-up, cut-le, cut-is}
use Rattle.routes.proofs.Goods.{good-fine}
use Rattle.standing.proofs.Longest.{cover-parts, best-is}

-- where a route covers a cell, the cells of the levels above the route are the same
pub slot-cover : (p i l : ℕ) (s : Route) → s.len ≤ 32 → covers p i s ≡ true → l ≤ s.len → slot l s.addr ≡ i / 2 ^ (p - l)
slot-cover p i l s w c h =
    let k = cover-parts p i s c in
    let e : l + (s.len - l) ≡ s.len = omega arith in
    sym (slot-up l (s.len - l) s.addr (omega arith))
    ∙ ap (λ (n : ℕ). slot n s.addr / 2 ^ (s.len - l)) e
    ∙ ap (λ (n : ℕ). n / 2 ^ (s.len - l)) k.1
    ∙ shr-shr i (p - s.len) (s.len - l)
    ∙ ap (λ (n : ℕ). i / 2 ^ n) (omega (arith, k.0))

-- of two routes that cover one cell, the longer starts no earlier
pub nested : (p i : ℕ) (r s : Route) → Fine r → Fine s → covers p i r ≡ true → covers p i s ≡ true → r.len ≤ s.len → r.addr ≤ s.addr
nested p i r s fr fs cr cs h =
    let e : slot r.len r.addr ≡ slot r.len s.addr = (cover-parts p i r cr).1 ∙ sym (slot-cover p i r.len s fs.prefix.len_ok cs h) in
    let d : cut r.len r.addr ≡ cut r.len s.addr
    = cut-is r.len r.addr ∙ ap (λ (n : ℕ). n * 2 ^ (32 - r.len)) e ∙ sym (cut-is r.len s.addr) in
    omega (arith, fr.prefix.clear, d, cut-le r.len s.addr)

-- a route of an ascending list is known by its key
pub same_route : (rs : List Route) → Good rs → (r s : Route) → Memᴰ r rs → Memᴰ s rs → key r ≡ key s → r ≡ s
unfolding Good
same_route [] a r s m k e = absurd (Memᴰ.not-nil m)
same_route (x ∷ xs) a r s m k e = go (Memᴰ.cases_cons m) (Memᴰ.cases_cons k) (same_route xs a.2 r s)
  where
    go : (r ≡ x) ⊎ Memᴰ r xs → (s ≡ x) ⊎ Memᴰ s xs → (Memᴰ r xs → Memᴰ s xs → key r ≡ key s → r ≡ s) → r ≡ s
    go (inl p) (inl q) ih = p ∙ sym q
    go (inl p) (inr k) ih = absurd (omega (arith, e, ap key p, a.1 s k))
    go (inr m) (inl q) ih = absurd (omega (arith, e, ap key q, a.1 r m))
    go (inr m) (inr k) ih = ih m k e

-- what `last_hop` finds
data Last (f : Route → Bool) (rs : List Route) (d h : ℕ) : Type 0 where
  nothing : h ≡ d → ((r : Route) → Memᴰ r rs → f r ≡ false) → Last f rs d h
  found : (r : Route) → Memᴰ r rs → f r ≡ true → h ≡ r.hop → ((s : Route) → Memᴰ s rs → f s ≡ true → key s ≤ key r) → Last f rs d h

last-is : (f : Route → Bool) (rs : List Route) (d : ℕ) → Good rs → Last f rs d (last_hop f rs d)
unfolding last_hop Good
last-is f [] d a = nothing refl (λ r m. absurd (Memᴰ.not-nil m))
last-is f (x ∷ xs) d a = go (decided (f x)) (last-is f xs (cond (f x) x.hop d) a.2)
  where
    go : (f x ≡ true) ⊎ (f x ≡ false) → Last f xs (cond (f x) x.hop d) (last_hop f xs (cond (f x) x.hop d))
        → Last f (x ∷ xs) d (last_hop f xs (cond (f x) x.hop d))
    go e (found r m t z h) = found r (Memᴰ.tail m) t z (λ s k. at s (Memᴰ.cases_cons k))
      where
        at : (s : Route) → (s ≡ x) ⊎ Memᴰ s xs → f s ≡ true → key s ≤ key r
        at s (inl q) u = omega (arith, ap key q, a.1 r m)
        at s (inr k) u = h s k u
    go (inl e) (nothing z n) = found x (Memᴰ.head refl) e (z ∙ rw e) (λ s k. at s (Memᴰ.cases_cons k))
      where
        at : (s : Route) → (s ≡ x) ⊎ Memᴰ s xs → f s ≡ true → key s ≤ key x
        at s (inl q) u = omega (arith, ap key q)
        at s (inr k) u = absurd (true≢false (sym u ∙ n s k))
    go (inr e) (nothing z n) = nothing (z ∙ rw e) (λ s k. at s (Memᴰ.cases_cons k))
      where
        at : (s : Route) → (s ≡ x) ⊎ Memᴰ s xs → f s ≡ false
        at s (inl q) = rw q e
        at s (inr k) = n s k

pub best-last : (rs : List Route) (p i : ℕ) → Good rs → last_hop (covers p i) rs 0 ≡ best rs p i
best-last rs p i a = go (best-is rs p i) (last-is (covers p i) rs 0 a)
  where
    go : {h k : ℕ} → Best rs p i k → Last (covers p i) rs 0 h → h ≡ k
    go (Best.none z n) (nothing z' n') = z' ∙ sym z
    go (Best.none z n) (found r m t z' h) = absurd (true≢false (sym t ∙ n r m))
    go (Best.one w) (nothing z n) = absurd (true≢false (sym w.covering ∙ n w.route w.listed))
    go (Best.one w) (found r m t z h) =
        let l : r.len ≤ w.route.len = w.longest r m t in
        let n : r.addr ≤ w.route.addr = nested p i r w.route (good-fine rs a r m) (good-fine rs a w.route w.listed) t w.covering l in
        z ∙ ap (λ (x : Route). x.hop) (same_route rs a r w.route m w.listed (omega (arith, h w.route w.listed w.covering))) ∙ sym w.its_hop
