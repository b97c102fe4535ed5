-- What `longest` says: what is beside the case that holds (`LongestRead`), and nothing else. The input's check comes first; then `best_route` is the
-- longest route that covers the address, of which a good list has one.
use mathlib.Core.Path.{◌≡◌, ap}
use mathlib.Core.List.{List}
use Prim.Native.Nat.{ℕ, ◌/◌}
use native.Mathlib.Omega.{arith}
use lib.ListN.{length}
use Rattle.routes.specs.Cases.{Passes}
use Rattle.routes.specs.Record.{routes_of, routes_in}
use Rattle.routes.specs.Route.{Good}
use Rattle.routes.specs.Said.{Said}
use Rattle.routes.proofs.Judged.{check-only, good-whole, bad-stops, by-input}
use Rattle.routes.proofs.Rows.{records-good}
use Rattle.standing.specs.Standing.{Held}
use Rattle.longest.specs.Best.{BestRoute}
use Rattle.longest.specs.Cases.{LongestRead}
use Rattle.longest.specs.Said.{longest_said}
use Rattle.longest.proofs.Bests.{best-route-is, best-route-none, best-route-only}

module _ (s : List ℕ) where
  -- the routes of an input that passes
  pub good_routes : (n : ℕ) → Passes s n → Good (routes_in s)
  good_routes n g =
      let w = good-whole s n g in
      let e : length s / 8 ≡ n = omega (arith, w.0) in
      rw (ap (routes_of s) e) (records-good s n w.1)

  module _ (a : ℕ) where
    pub longest-only : (x : Said) → LongestRead s a x → longest_said s a ≡ x
    unfolding longest_said
    longest-only _ (LongestRead.bad_input x b) = rw (check-only s x b.checked) (bad-stops x _ b.not_accepted)
    longest-only _ (LongestRead.covered n g r w) = rw (check-only s _ g, best-route-only (routes_in s) (good_routes n g) a r w)
    longest-only _ (LongestRead.uncovered n g h) = rw (check-only s _ g, best-route-none (routes_in s) a h)

    pub longest-judged : LongestRead s a (longest_said s a)
    longest-judged = by-input s (λ x. LongestRead s a (longest_said s a)) (λ x b. told (LongestRead.bad_input x b))
        (λ n g. at n g (best-route-is (routes_in s) a))
      where
        told : {x : Said} → LongestRead s a x → LongestRead s a (longest_said s a)
        told c = rw (longest-only _ c) c

        at : (n : ℕ) → Passes s n → {h : Held} → BestRoute (routes_in s) a h → LongestRead s a (longest_said s a)
        at n g (BestRoute.none k) = told (LongestRead.uncovered n g k)
        at n g (BestRoute.one r w) = told (LongestRead.covered n g r w)
