-- The hop of `best` serves an address, and of each address one thing is said: in a good list `best` is the one hop that is longest, and 0 exactly
-- where no route covers.
use mathlib.Core.Path.{◌≡◌, refl, sym, ◌∙◌}
use mathlib.Core.Logic.{◌↔◌}
use mathlib.Core.Bool.{Bool, true, false, cond}
use mathlib.Core.List.{List, Memᴰ}
use Prim.Native.Nat.{ℕ, ◌≤◌}
use native.Mathlib.Omega.{arith}
use lib.Dec.{eqb}
use borrow.Author.Tests.{ne_eqb}
use Rattle.routes.specs.Route.{Good}
use Rattle.routes.specs.Said.{Said, hop_after, no_route_after}
use Rattle.routes.specs.declared.Route.{Route}
use Rattle.routes.proofs.Goods.{good-fine}
use Rattle.standing.specs.Cells.{covers, Longest, Best, best}
use Rattle.standing.specs.Served.{Served, hop_said, uncounted}
use Rattle.standing.proofs.Longest.{best-is}
use Rattle.standing.proofs.Only.{best-only, covers-none}

some-hop : (n h : ℕ) → 1 ≤ h → hop_said n h ≡ hop_after n h
unfolding hop_said
some-hop n h l = rw (ne_eqb h 0 (λ z. omega arith))

pub none-hop : (n : ℕ) → hop_said n 0 ≡ no_route_after n
unfolding hop_said
none-hop n = refl

-- what is said of one hop, told after different counts, differs in the count alone
pub hop-alone : (n m h : ℕ) → uncounted (hop_said n h) ≡ uncounted (hop_said m h)
unfolding hop_said
hop-alone n m h = go (eqb h 0)
  where
    go : (b : Bool) → uncounted (cond b (no_route_after n) (hop_after n h)) ≡ uncounted (cond b (no_route_after m) (hop_after m h))
    go true = refl
    go false = refl

-- two lists of the same routes give the same hop, and no route alike
pub same-hop : (n m a : ℕ) {rs ss : List Route} → rs ≡ ss → uncounted (hop_said n (best rs 32 a)) ≡ uncounted (hop_said m (best ss 32 a))
same-hop n m a {rs} e = rw (sym e) (hop-alone n m (best rs 32 a))

module _ (rs : List Route) (good : Good rs) (a : ℕ) where
  -- a route that is listed has a hop
  longest-some : {h : ℕ} → Longest rs 32 a h → 1 ≤ h
  longest-some w = omega (arith, (good-fine rs good w.route w.listed).hop_one, w.its_hop)

  pub longest-best : {h : ℕ} → Longest rs 32 a h → (best rs 32 a ≡ h) × (1 ≤ h)
  longest-best {h} w = (best-only rs good 32 a (best rs 32 a) h (best-is rs 32 a) (Best.one w), longest-some w)

  -- the hop of `best`, or no route where it is 0, serves
  pub best-served : (n : ℕ) → Served rs a n (hop_said n (best rs 32 a))
  best-served n = go (best-is rs 32 a)
    where
      go : {h : ℕ} → Best rs 32 a h → Served rs a n (hop_said n h)
      go (Best.none z none) = rw (z, none-hop n) (Served.no_route none)
      go {h} (Best.one w) = rw (some-hop n h (longest-some w)) (Served.hop h w)

  -- and nothing else does
  served-best : (n : ℕ) {s : Said} → Served rs a n s → s ≡ hop_said n (best rs 32 a)
  served-best n (Served.hop h w) = let b = longest-best w in rw (b.0, some-hop n h b.1)
  served-best n (Served.no_route z) = rw (covers-none rs good 32 a z, none-hop n)

  pub served-once : (n : ℕ) {s u : Said} → Served rs a n s → Served rs a n u → s ≡ u
  served-once n v w = served-best n v ∙ sym (served-best n w)

  -- no route is said exactly where none covers
  pub none-served : {n : ℕ} {s : Said} → Served rs a n s
      → ((m : ℕ) × (s ≡ no_route_after m)) ↔ ((r : Route) → Memᴰ r rs → covers 32 a r ≡ false)
  none-served {n} v = ((λ x. go v x.1), (λ none. (n, served-once n v (Served.no_route none))))
    where
      go : {m : ℕ} {s : Said} → Served rs a n s → s ≡ no_route_after m → (r : Route) → Memᴰ r rs → covers 32 a r ≡ false
      go (Served.hop h w) e = absurd (let z : ◌≡◌ {A = ℕ} 0 1 = cc in omega arith)
      go (Served.no_route z) e = z
