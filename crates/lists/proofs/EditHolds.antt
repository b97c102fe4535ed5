-- What a list holds after a change: the routes that then stand, as many as told, and no other byte.
use mathlib.Core.Path.{◌≡◌, subst}
use mathlib.Core.Logic.{◌⊎◌, inl, inr}
use mathlib.Core.Bool.{true, false}
use mathlib.Core.List.{List}
use Prim.Native.Nat.{ℕ, ◌/◌, ◌≤◌}
use native.Mathlib.Omega.{arith}
use lib.ListN.{length}
use Rattle.bits.proofs.Bools.{decided}
use Rattle.routes.specs.Route.{key, Good}
use Rattle.standing.specs.Standing.{stands, insert, remove}
use Rattle.routes.specs.Record.{routes_of, written, Listed}
use Rattle.routes.specs.declared.Route.{Route}
use Rattle.standing.proofs.Standing.{insert-good, insert-replaces, remove-good, remove-length}
use Rattle.routes.proofs.Rows.{length-routes, records-good, routes-written, written_listed}
use Rattle.lists.specs.Edit.{Insertable, inserted, removed, count_with, count_without, ListHolds}
use Rattle.standing.proofs.Changed.{insert-adds, remove-takes, remove_absent}

pub insert-count : (r : Route) (rs : List Route) → Good rs → length (insert r rs) ≡ count_with (stands (key r) rs) (length rs)
insert-count r rs good = go (decided (stands (key r) rs))
  where
    go : (stands (key r) rs ≡ true) ⊎ (stands (key r) rs ≡ false) → length (insert r rs) ≡ count_with (stands (key r) rs) (length rs)
    go (inl e) = rw e (insert-replaces r rs good e)
    go (inr e) = rw e (omega (arith, insert-adds r rs e))

pub remove-count : (p : ℕ) (rs : List Route) → Good rs → length (remove p rs) ≡ count_without (stands p rs) (length rs)
remove-count p rs good = go (decided (stands p rs))
  where
    go : (stands p rs ≡ true) ⊎ (stands p rs ≡ false) → length (remove p rs) ≡ count_without (stands p rs) (length rs)
    go (inl e) = rw e (omega (arith, remove-takes p rs good e))
    go (inr e) = rw (e, remove_absent p rs e)

holds : (rs : List Route) (room n : ℕ) → Good rs → room ≤ 4096 → length rs ≤ room → length rs ≡ n → ListHolds (written rs room) n rs
holds rs room n good few fits e = record {
  listed = subst (λ (m : ℕ). Listed (written rs room) m) e (written_listed rs room good fits few);
  routes = subst (λ (m : ℕ). routes_of (written rs room) m ≡ rs) e (routes-written rs room good fits);
}

module _ (s : List ℕ) (n : ℕ) (few : length s / 8 ≤ 4096) where
  pub insert-holds : (r : Route) → Insertable s n r → ListHolds (inserted s n r) (count_with (stands (key r) (routes_of s n)) n) (insert r (routes_of s n))
  insert-holds r ok =
      let good = records-good s n ok.listed.records in
      let e : length (insert r (routes_of s n)) ≡ count_with (stands (key r) (routes_of s n)) n = rw length-routes at (insert-count r (routes_of s n) good) in
      holds (insert r (routes_of s n)) (length s / 8) _ (insert-good r (routes_of s n) ok.fine good) few
      (rw e (go (decided (stands (key r) (routes_of s n))))) e
    where
      go : (stands (key r) (routes_of s n) ≡ true) ⊎ (stands (key r) (routes_of s n) ≡ false) → count_with (stands (key r) (routes_of s n)) n ≤ length s / 8
      go (inl e) = rw e (omega (arith, ok.listed.records.room))
      go (inr e) = rw e (omega (arith, ok.room e))

  pub remove-holds : (p : ℕ) → Listed s n → ListHolds (removed s n p) (count_without (stands p (routes_of s n)) n) (remove p (routes_of s n))
  remove-holds p listed =
      let good = records-good s n listed.records in
      holds (remove p (routes_of s n)) (length s / 8) _ (remove-good p (routes_of s n) good) few
      (omega (arith, remove-length p (routes_of s n), length-routes s n, listed.records.room))
      (rw length-routes at (remove-count p (routes_of s n) good))
