-- Out of a good input `route_at` reads each route at its place, and nothing past the last: an input that passes has its records, and they are its
-- routes. And out of the first records of a list that holds good ones.
use mathlib.Core.Path.{◌≡◌, sym, ◌∙◌, ap, subst}
use mathlib.Core.List.{List, [], ◌∷◌}
use Prim.Native.Nat.{ℕ, ◌*◌, ◌<◌}
use native.Mathlib.Nat.{zero-add}
use native.Mathlib.Omega.{arith}
use lib.ListN.{length, get_or, take}
use Rattle.bits.proofs.Tabs.{tabulate-ext}
use Rattle.routes.specs.Record.{record_at, routes_of, no_route, part, Records}
use Rattle.routes.specs.Input.{input_said}
use Rattle.routes.specs.Answers.{values_of, route_said, ReadBack}
use Rattle.routes.specs.Cases.{Passes, RouteRead}
use Rattle.routes.specs.Said.{accepted}
use Rattle.routes.specs.declared.Route.{Route}
use Rattle.routes.proofs.Meaning.{input-checked}
use Rattle.routes.proofs.Judged.{route-only}
use Rattle.routes.proofs.Rows.{StandsAt, listed_nth, length-routes, nth-route}
use Rattle.routes.proofs.Parts.{part-record, part-good}

pub read_back : (bytes : List ℕ) (n : ℕ) → input_said bytes ≡ accepted (n ∷ []) → ReadBack bytes (routes_of bytes n)
read_back bytes n e = record {
  each = λ r m. at r (listed_nth (routes_of bytes n) r m);
  in_order = λ k l. reads k (rw length-routes at l);
  no_more = λ k l. route-only bytes k _ (RouteRead.past n good (rw length-routes at l));
}
  where
    good : Passes bytes n
    good = rw e at (input-checked bytes)

    reads : (k : ℕ) → k < n → route_said bytes k ≡ accepted (values_of (get_or (routes_of bytes n) k no_route))
    reads k l = route-only bytes k _ (RouteRead.there n good l) ∙ ap (λ (r : Route). accepted (values_of r)) (sym (nth-route bytes n k l))

    at : (r : Route) → StandsAt (routes_of bytes n) r → (k : ℕ) × (k < length (routes_of bytes n)) × (route_said bytes k ≡ accepted (values_of r))
    at r p = (p.place, p.inside, reads p.place (rw length-routes at p.inside) ∙ ap (λ (x : Route). accepted (values_of x)) p.holds)

-- the first n records
pub read-back-first : (list : List ℕ) (n : ℕ) → Records list n → ReadBack (take (n * 8) list) (routes_of list n)
unfolding routes_of
read-back-first list n r = subst (ReadBack (part list 0 n)) same (read_back (part list 0 n) n (part-good list 0 n n (omega arith) r))
  where
    same : routes_of (part list 0 n) n ≡ routes_of list n
    same = tabulate-ext n (record_at (part list 0 n)) (record_at list) (λ j h. part-record list 0 n j h ∙ ap (record_at list) (zero-add j))
