-- Inputs that meet what the theorems on broadcasts suppose, and answers that meet the statement: a broadcast, none, a version that is none, a
-- refused input.
use mathlib.Core.Path.{◌≡◌, refl, sym, ◌∙◌, subst}
use mathlib.Core.Logic.{◌≢◌}
use mathlib.Core.List.{List, [], ◌∷◌}
use Prim.Native.Nat.{ℕ}
use native.Mathlib.Omega.{arith}
use Rattle.bits.specs.Slot.{cut}
use Rattle.bits.specs.Search.{first_from, first_of}
use Rattle.bits.specs.Tab.{tabulate}
use Rattle.routes.specs.Input.{proper_prefix, hop_fine, route_fault, in_order, fault_at, input_said}
use Rattle.routes.specs.Record.{record_at, routes_of, GoodInput, routes_in}
use Rattle.routes.specs.Said.{accepted}
use Rattle.routes.specs.declared.Route.{Route}
use Rattle.standing.specs.Standing.{stood}
use Rattle.longest.specs.Best.{best_route, LongestRoute, BestRoute}
use Rattle.longest.proofs.Bests.{best-route-is}
use Rattle.sail_theory.specs.Calls.{route}
use Rattle.broadcast.specs.Cast.{version_fine, last_len, highest, cast_of, is_broadcast, cast_said}
use Rattle.broadcast.specs.Meaning.{UpperOfTwo}
use Rattle.std.specs.Prelude.{Some, None, Ok, Err, true, false}
use Rattle.refusals.specs.declared.Refusal.TheVariants as refusal
use Rattle.routes.specs.Said.{said_by}
use Rattle.broadcast.proofs.Casts.{rules-differ}
use Rattle.broadcast.specs.Contract.{MeetsBroadcast}
use Rattle.examples.specs.Lines.{ip}

-- RFC 3021's link of two hosts, attached: 192.0.2.0/31
unfoldable pub link : List ℕ
link = 192 ∷ 0 ∷ 2 ∷ 0 ∷ 31 ∷ 1 ∷ 0 ∷ 1 ∷ []

older : cast_said 1 link (ip 192 0 2 1) ≡ accepted (1 ∷ [])
unfolding cast_said version_fine input_said first_of first_from fault_at route_fault in_order proper_prefix hop_fine record_at cut routes_of tabulate is_broadcast
    cast_of best_route last_len highest link
older = refl

newer : cast_said 2 link (ip 192 0 2 1) ≡ accepted (0 ∷ [])
unfolding cast_said version_fine input_said first_of first_from fault_at route_fault in_order proper_prefix hop_fine record_at cut routes_of tabulate is_broadcast
    cast_of best_route last_len highest link
newer = refl

-- its upper address is where the rules differ
rules-part : cast_said 1 link (ip 192 0 2 1) ≢ cast_said 2 link (ip 192 0 2 1)
rules-part e =
    let p : accepted (1 ∷ []) ≡ accepted (0 ∷ []) = sym older ∙ e ∙ newer in
    let z : ◌≡◌ {A = ℕ} 0 1 = cc in
    omega arith

pub upper : (n : ℕ) × GoodInput link n × UpperOfTwo (routes_in link) (ip 192 0 2 1)
upper = (rules-differ link (ip 192 0 2 1)).0 rules-part

-- One answer: a broadcast under the older rule, none under the newer, no such version whatever the input, and an input that is refused.
pub cast-older : MeetsBroadcast 1 link (ip 192 0 2 1) (Ok true)
unfolding said_by
cast-older = sym older

pub cast-newer : MeetsBroadcast 2 link (ip 192 0 2 1) (Ok false)
unfolding said_by
cast-newer = sym newer

pub cast-version : (a : ℕ) → MeetsBroadcast 3 (1 ∷ []) a (Err (record { why = refusal.Version; at = None }))
unfolding said_by cast_said version_fine
cast-version a = refl

pub cast-refused : (a : ℕ) → MeetsBroadcast 1 (1 ∷ []) a (Err (record { why = refusal.Record; at = Some 0 }))
unfolding said_by cast_said version_fine input_said
cast-refused a = refl

-- An attached network, and a host in it with a route of its own: 10.0.0.0/24 and 10.0.0.255/32.
unfoldable pub hosts : List ℕ
hosts = 10 ∷ 0 ∷ 0 ∷ 0 ∷ 24 ∷ 1 ∷ 0 ∷ 1 ∷ 10 ∷ 0 ∷ 0 ∷ 255 ∷ 32 ∷ 1 ∷ 0 ∷ 2 ∷ []

longest-of : (rs : List Route) (a : ℕ) (r : Route) → best_route rs a ≡ stood r → LongestRoute rs a r
longest-of rs a r e = go (subst (BestRoute rs a) e (best-route-is rs a))
  where
    go : BestRoute rs a (stood r) → LongestRoute rs a r
    go (BestRoute.one _ w) = w

pub host : LongestRoute (routes_in hosts) (ip 10 0 0 255) (route (ip 10 0 0 255) 32 2 1)
unfolding hosts routes_of tabulate record_at best_route
host = longest-of (routes_in hosts) (ip 10 0 0 255) (route (ip 10 0 0 255) 32 2 1) refl
