-- Announcements and withdrawals on a built image one after the other, and the routes that stand by what they said alone. The form is that of runs on
-- a table (sail_theory, specs/CallRuns.antt).
use Rattle.std.specs.Prelude.{cond, List, [], ◌∷◌, map, ℕ, eqb}
use Rattle.routes.specs.Record.{routes_in}
use Rattle.routes.specs.Route.{key_of, plain}
use Rattle.routes.specs.Said.{accepts}
use Rattle.routes.specs.declared.Route.{Route}
use Rattle.standing.specs.Standing.{Held, absent, stood, route_at, insert, remove}
use Rattle.tree_build.specs.Built.{ImageOut, built}
use Rattle.tree_same.specs.Listed.{routes_held}
use Rattle.tree_theory.specs.Changed.{unmarked_route, image_announced, image_withdrawn}

-- an announcement of address, length and hop; a withdrawal of address and length
pub data ImageCall : Type 0 where
  announce : ℕ → ℕ → ℕ → ImageCall
  withdraw : ℕ → ℕ → ImageCall

unfoldable pub image_done : List ℕ → List ℕ → ImageCall → ImageOut
image_done ws hs (announce a len h) = image_announced ws hs a len h
image_done ws hs (withdraw a len) = image_withdrawn ws hs a len

-- what a run of calls leaves of a build of the input s into ws and hs; the last call stands first
unfoldable pub image_after : List ℕ → List ℕ → List ℕ → List ImageCall → ImageOut
image_after s ws hs [] = built s ws hs
image_after s ws hs (c ∷ cs) = image_done (image_after s ws hs cs).words (image_after s ws hs cs).hops c

-- the routes then standing: those that are read out of the arrays
abbrev pub image_standing_after : List ℕ → List ℕ → List ℕ → List ImageCall → List Route
image_standing_after s ws hs cs = routes_held (image_after s ws hs cs).words (image_after s ws hs cs).hops

-- what stands for the prefix with key k after an accepted call, where `before` stood for it
abbrev pub image_held_after : ImageCall → ℕ → Held → Held
image_held_after (announce a len h) k before = cond (eqb (key_of a len) k) (stood (unmarked_route a len h)) before
image_held_after (withdraw a len) k before = cond (eqb (key_of a len) k) absent before

-- worked out from the input's routes, marks aside, and the accepted calls alone
unfoldable pub image_held_by_calls : List ℕ → List ℕ → List ℕ → List ImageCall → ℕ → Held
image_held_by_calls s ws hs [] k = route_at k (map plain (routes_in s))
image_held_by_calls s ws hs (c ∷ cs) k =
    cond (accepts (image_after s ws hs (c ∷ cs)).said)
    (image_held_after c k (image_held_by_calls s ws hs cs k))
    (image_held_by_calls s ws hs cs k)

-- the routes that would stand after the call, where rs stand
abbrev pub image_routes_after : ImageCall → List Route → List Route
image_routes_after (announce a len h) rs = insert (unmarked_route a len h) rs
image_routes_after (withdraw a len) rs = remove (key_of a len) rs
