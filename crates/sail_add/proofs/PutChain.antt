-- A record put into a list leaves those before its place. So the words before it stand, with their parents, and the chain is gone on with from there.
use mathlib.Core.Path.{◌≡◌, sym, ◌∙◌, ap}
use mathlib.Core.Logic.{◌⊎◌, inl, inr}
use mathlib.Core.Bool.{Bool, true, false}
use mathlib.Core.List.{List}
use Prim.Native.Nat.{ℕ, ◌≤◌, ◌<◌}
use native.Mathlib.Omega.{arith}
use lib.ListN.{get_or}
use lib.Seq.{get_or-set_other}
use Rattle.bits.proofs.Bools.{decided}
use Rattle.routes.specs.Route.{key}
use Rattle.routes.specs.Record.{record_at, routes_of, no_route}
use Rattle.routes.specs.declared.Route.{Route}
use Rattle.routes.proofs.Rows.{length-routes, nth-route}
use Rattle.standing.specs.Standing.{insert}
use Rattle.chain.specs.List.{ChainedBelow, ChainedFront}
use Rattle.chain.proofs.Fronts.{front_below}
use Rattle.lists.specs.Edit.{inserted, count_with, ListHolds}
use Rattle.lists.proofs.Places.{place-le, place-before}
use Rattle.lists.proofs.EditPlaces.{replace-fits, insert-fits}
use Rattle.lists.proofs.EditRoutes.{insert-over, between-before}
use Rattle.lists.proofs.EditHolds.{insert-holds}
use Rattle.sail_add.specs.PutIn.{PutInReady, ListPut}

module _ {s : List ℕ} {n k : ℕ} {b : Bool} {r : Route} {ws par : List ℕ} (p : PutInReady s n k b r ws par) where
  abbrev rs : List Route
  rs = routes_of s n

  holds : ListHolds (inserted s n r) (count_with b n) (insert r rs)
  holds = rw p.fits.stood (insert-holds s n p.few r p.fits.fits)

  place : k ≤ n
  place = rw p.fits.place (place-le s n (key r))

  in_place : k ≤ count_with b n
  in_place = go (decided b)
    where
      go : (b ≡ true) ⊎ (b ≡ false) → k ≤ count_with b n
      go (inl e) = rw e place
      go (inr e) = rw e (omega (arith, place))

  before : (i : ℕ) → i < k → key (get_or rs i no_route) < key r
  before i u = rw (nth-route s n i (omega (arith, place))) (place-before s n (key r) i (rw p.fits.place at u))

  nth-put : (j : ℕ) → j < k → get_or (insert r rs) j no_route ≡ get_or rs j no_route
  nth-put j u = go (decided b)
    where
      go : (b ≡ true) ⊎ (b ≡ false) → get_or (insert r rs) j no_route ≡ get_or rs j no_route
      go (inl e) =
          let f = replace-fits s n k b r p.fits e in
          rw (insert-over r rs k before (rw length-routes f.place) (ap key (nth-route s n k f.place) ∙ f.same))
          (get_or-set_other rs k j r no_route (λ q. omega arith))
      go (inr e) =
          let f = insert-fits s n k b r p.fits e in
          between-before r rs k before (rw length-routes place)
          (λ l. let v : k < n = rw length-routes at l in rw (nth-route s n k v) (f.after v)) j u

  same-before : (j : ℕ) → j < k → record_at (inserted s n r) j ≡ record_at s j
  same-before j u =
      sym (nth-route (inserted s n r) (count_with b n) j (omega (arith, in_place))) ∙ ap (λ (x : List Route). get_or x j no_route) holds.routes
      ∙ nth-put j u ∙ nth-route s n j (omega (arith, place))

  -- z is the list with the route put in, and m the number of its routes
  module _ {z : List ℕ} (list-is : z ≡ inserted s n r) {m : ℕ} (count-is : m ≡ count_with b n) where
    pub put-below : ChainedBelow z m k ws par
    put-below = rw (list-is, count-is) (front_below p.chain holds.listed.records place in_place same-before)

    pub put-done : {words chain : List ℕ} → ChainedFront z m words chain → ListPut s n b r z m words chain
    put-done f = record { list = list-is; count = count-is; few = put-below.records.few; chain = f }
