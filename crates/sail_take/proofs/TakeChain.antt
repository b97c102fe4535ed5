-- A record taken out of a list leaves those before it. So the words before it stand, with their parents, and the chain is gone on with from there.
use mathlib.Core.Path.{◌≡◌, refl, sym, ◌∙◌, ap}
use mathlib.Core.Bool.{true}
use mathlib.Core.List.{List}
use Prim.Native.Nat.{ℕ, ◌-◌, ◌≤◌, ◌<◌}
use native.Mathlib.Omega.{arith}
use lib.ListN.{get_or}
use Rattle.routes.specs.Route.{key}
use Rattle.routes.specs.Record.{record_at, routes_of, no_route}
use Rattle.routes.specs.declared.Route.{Route}
use Rattle.routes.proofs.Rows.{length-routes, nth-route, records-good}
use Rattle.standing.specs.Standing.{stands, remove}
use Rattle.chain.specs.List.{ChainedBelow, ChainedFront}
use Rattle.chain.proofs.Fronts.{front_below}
use Rattle.lists.specs.Edit.{removed, ListHolds}
use Rattle.lists.proofs.EditRoutes.{stands-some, without-before}
use Rattle.lists.proofs.EditHolds.{remove-holds}
use Rattle.sail_take.specs.TakenOut.{TakeOutReady, ListTaken}

module _ {s : List ℕ} {n k : ℕ} {ws par : List ℕ} (p : TakeOutReady s n k ws par) where
  abbrev rs : List Route
  rs = routes_of s n

  abbrev x : ℕ
  x = key (record_at s k)

  nth : get_or rs k no_route ≡ record_at s k
  nth = nth-route s n k p.fits.place

  stood : stands x rs ≡ true
  stood = stands-some x rs k (rw length-routes p.fits.place) (ap key nth)

  holds : ListHolds (removed s n x) (n - 1) (remove x rs)
  holds = rw stood at (remove-holds s n p.few x p.fits.listed)

  in_place : k ≤ n - 1
  in_place = omega (arith, p.fits.place)

  nth-taken : (j : ℕ) → j < k → get_or (remove x rs) j no_route ≡ get_or rs j no_route
  nth-taken j u =
      rw nth at (without-before rs k (records-good s n p.fits.listed.records) (rw length-routes p.fits.place) j u)

  same-before : (j : ℕ) → j < k → record_at (removed s n x) j ≡ record_at s j
  same-before j u =
      sym (nth-route (removed s n x) (n - 1) j (omega (arith, in_place))) ∙ ap (λ (y : List Route). get_or y j no_route) holds.routes
      ∙ nth-taken j u ∙ nth-route s n j (omega (arith, in_place))

  -- z is the list without the record
  module _ {z : List ℕ} (list-is : z ≡ removed s n x) where
    pub taken-below : ChainedBelow z (n - 1) k ws par
    taken-below = rw list-is (front_below p.chain holds.listed.records (omega (arith, in_place)) in_place same-before)

    pub taken-done : {words chain : List ℕ} → ChainedFront z (n - 1) words chain → ListTaken s n k z (n - 1) words chain
    taken-done f = record { list = list-is; count = refl; few = taken-below.records.few; chain = f }
