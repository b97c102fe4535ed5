-- What the calls of a run say, and which routes stand after it, by the routes alone: no cell and no owner is asked (`run-says` and `run-stood`,
-- proofs/Replies.antt).
use Rattle.std.specs.Prelude.{true, cond, List, [], ◌∷◌}
use Rattle.bits.specs.Count.{bit}
use Rattle.bits.specs.Slot.{cut}
use Rattle.routes.specs.Route.{key}
use Rattle.routes.specs.Input.{route_fault, input_said}
use Rattle.routes.specs.Said.{Said, accepted, and_then, accepts}
use Rattle.routes.specs.declared.Route.{Route}
use Rattle.standing.specs.Standing.{stands}
use Rattle.sail_theory.specs.Calls.{Terms, announce_fault, withdraw_fault, load_fault, or_say, input_routes, cut_route, cleared, with_flag}
use Rattle.sail_theory.specs.CallRuns.{Call, announce, withdraw, load, routes_after}

-- what a call says where the routes rs stand, on these terms
unfoldable pub reply : Terms → List Route → Call → Said
reply m rs (announce r) =
    with_flag (cleared r.len r.addr)
    (or_say (route_fault (cut_route r))
    (or_say (announce_fault true m rs (cut_route r))
    (accepted (bit (stands (key (cut_route r)) rs) ∷ []))))
reply m rs (withdraw a len) = with_flag (cleared len a) (or_say (withdraw_fault true rs (cut len a) len) (accepted []))
reply m rs (load input) = and_then (input_said input) (or_say (load_fault m (input_routes input)) (accepted []))

-- the routes that stand after a run; the last call stands first
unfoldable pub stood : Terms → List Call → List Route
stood m [] = []
stood m (c ∷ cs) = cond (accepts (reply m (stood m cs) c)) (routes_after c (stood m cs)) (stood m cs)
