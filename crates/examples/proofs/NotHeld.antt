-- What stands for a prefix is one thing: nothing is no route, and a route is told with its hop and its mark. In list A nothing else stands for a prefix
-- than its own route.
use mathlib.Core.Path.{◌≡◌, refl, sym, ◌∙◌, ap}
use Prim.Native.Nat.{ℕ}
use native.Mathlib.Omega.{arith}
use Rattle.bits.specs.Tab.{tabulate}
use Rattle.routes.specs.Route.{key_of}
use Rattle.routes.specs.Record.{record_at, routes_of}
use Rattle.routes.specs.declared.Route.{Route}
use Rattle.standing.specs.Standing.{Held, absent, stood, route_at}
use Rattle.sail_theory.specs.Calls.{route}
use Rattle.examples.specs.Lines.{ip}
use Rattle.routes.specs.ListA.{list_a}
use Rattle.examples.proofs.TableA.{routes_a}

pub not-absent : (r : Route) → absent ≡ stood r → ⊥
not-absent r e = let z : ◌≡◌ {A = ℕ} 0 1 = cc in omega arith

hop_of : Held → ℕ
hop_of absent = 0
hop_of (stood r) = r.hop

pub one-hop : (a len m h k : ℕ) → stood (route a len h m) ≡ stood (route a len k m) → h ≡ k
unfolding hop_of
one-hop a len m h k e = ap hop_of e

mark_of : Held → ℕ
mark_of absent = 0
mark_of (stood r) = r.mark

pub one-mark : (a len h m k : ℕ) → stood (route a len h m) ≡ stood (route a len h k) → m ≡ k
unfolding mark_of
one-mark a len h m k e = ap mark_of e

held : route_at (key_of (ip 10 1 2 0) 24) routes_a ≡ stood (route (ip 10 1 2 0) 24 44 0)
unfolding list_a routes_of tabulate record_at route_at
held = refl

-- not absent, not with another hop or mark
pub held-absent : route_at (key_of (ip 10 1 2 0) 24) routes_a ≡ absent → ⊥
held-absent e = not-absent _ (sym e ∙ held)

pub held-other : route_at (key_of (ip 10 1 2 0) 24) routes_a ≡ stood (route (ip 10 1 2 0) 24 45 0) → ⊥
held-other e = omega (arith, one-hop (ip 10 1 2 0) 24 0 44 45 (sym held ∙ e))

pub held-marked : route_at (key_of (ip 10 1 2 0) 24) routes_a ≡ stood (route (ip 10 1 2 0) 24 44 1) → ⊥
held-marked e = omega (arith, one-mark (ip 10 1 2 0) 24 44 0 1 (sym held ∙ e))

-- and for a prefix of the same address and another length nothing stands
other_length : route_at (key_of (ip 10 1 2 0) 25) routes_a ≡ absent
unfolding list_a routes_of tabulate record_at route_at
other_length = refl

pub held-longer : route_at (key_of (ip 10 1 2 0) 25) routes_a ≡ stood (route (ip 10 1 2 0) 25 44 0) → ⊥
held-longer e = not-absent _ (sym other_length ∙ e)
