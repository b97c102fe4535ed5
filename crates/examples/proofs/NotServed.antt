-- What is not the answer for an address where list A stands: another hop, another count, no route or a refusal at a covered address, and a
-- hop where no route covers.
use mathlib.Core.Path.{◌≡◌, refl, ◌∙◌}
use mathlib.Core.List.{List, []}
use Prim.Native.Nat.{ℕ}
use native.Mathlib.Omega.{arith}
use Rattle.bits.specs.Tab.{tabulate}
use Rattle.routes.specs.Route.{Good}
use Rattle.routes.specs.Record.{record_at, routes_of}
use Rattle.routes.specs.Said.{Said, refused, hop_after, no_route_after}
use Rattle.routes.specs.declared.Route.{Route}
use Rattle.standing.specs.Cells.{first, Best, best}
use Rattle.standing.proofs.Longest.{best-is}
use Rattle.standing.proofs.Only.{best-only, covers-none}
use Rattle.standing.specs.Served.{Served}
use Rattle.examples.specs.Lines.{ip}
use Rattle.routes.specs.ListA.{list_a}
use Rattle.examples.proofs.TableA.{routes_a, routes-good}

-- what is served tells the count, and the best hop or none
module _ (rs : List Route) (good : Good rs) (a n : ℕ) where
  hop-told : (m h : ℕ) {s : Said} → Served rs a n s → s ≡ hop_after m h → (m ≡ n) × (best rs 32 a ≡ h)
  hop-told m h (Served.hop k w) e = (cc, best-only rs good 32 a (best rs 32 a) k (best-is rs 32 a) (Best.one w) ∙ cc)
  hop-told m h (Served.no_route z) e = absurd (let y : ◌≡◌ {A = ℕ} 0 1 = cc in omega arith)

  none_told : (m : ℕ) {s : Said} → Served rs a n s → s ≡ no_route_after m → best rs 32 a ≡ 0
  none_told m (Served.hop k w) e = absurd (let y : ◌≡◌ {A = ℕ} 0 1 = cc in omega arith)
  none_told m (Served.no_route z) e = covers-none rs good 32 a z

  never-refused : (k : ℕ) {s : Said} → Served rs a n s → s ≡ refused k → ⊥
  never-refused k (Served.hop h w) e = let y : ◌≡◌ {A = ℕ} 0 1 = cc in omega arith
  never-refused k (Served.no_route z) e = let y : ◌≡◌ {A = ℕ} 0 1 = cc in omega arith

-- 10.1.2.200 is under three of its routes, the longest to 57
hop-200 : best routes_a 32 (ip 10 1 2 200) ≡ 57
unfolding list_a routes_of tabulate record_at best first
hop-200 = refl

pub shorter-route : Served routes_a (ip 10 1 2 200) 3 (hop_after 3 44) → ⊥
shorter-route s = omega (arith, hop-200, (hop-told routes_a routes-good (ip 10 1 2 200) 3 3 44 s refl).1)

pub other-hop : Served routes_a (ip 10 1 2 200) 3 (hop_after 3 58) → ⊥
other-hop s = omega (arith, hop-200, (hop-told routes_a routes-good (ip 10 1 2 200) 3 3 58 s refl).1)

pub other-count : Served routes_a (ip 10 1 2 200) 3 (hop_after 2 57) → ⊥
other-count s = omega (arith, (hop-told routes_a routes-good (ip 10 1 2 200) 3 2 57 s refl).0)

pub no-route-told : Served routes_a (ip 10 1 2 200) 3 (no_route_after 3) → ⊥
no-route-told s = omega (arith, hop-200, none_told routes_a routes-good (ip 10 1 2 200) 3 3 s refl)

pub refusal-told : (k : ℕ) → Served routes_a (ip 10 1 2 200) 3 (refused k) → ⊥
refusal-told k s = never-refused routes_a routes-good (ip 10 1 2 200) 3 k s refl

-- where nothing stands nothing is a hop
hop-none : best [] 32 (ip 10 1 2 200) ≡ 0
unfolding best first
hop-none = refl

none-good : Good []
unfolding Good
none-good = tt

pub hop-of-nothing : Served [] (ip 10 1 2 200) 1 (hop_after 1 57) → ⊥
hop-of-nothing s = omega (arith, hop-none, (hop-told [] none-good (ip 10 1 2 200) 1 1 57 s refl).1)
