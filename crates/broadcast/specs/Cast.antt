-- What is said of an address: whether it is a directed broadcast under a version's rule.
use Rattle.std.specs.Prelude.{Bool, false, ◌&&◌, ◌||◌, cond, List, [], ◌∷◌, ℕ, ◌+◌, ◌-◌, ◌^◌, eqb, leb, Result}
use Rattle.bits.specs.Count.{bit}
use Rattle.longest.specs.Best.{best_route}
use Rattle.routes.specs.Input.{input_said}
use Rattle.routes.specs.Record.{routes_in}
use Rattle.refusals.specs.declared.Refused.{Refused}
use Rattle.routes.specs.Said.{Said, accepted, refused, and_then, said_by}
use Rattle.routes.specs.declared.Route.{Route}
use Rattle.standing.specs.Standing.{Held, absent, stood}

-- "version 1 the older, 2 the newer"
unfoldable pub version_fine : ℕ → Bool
version_fine v = eqb v 1 || eqb v 2

-- the older rule is for "length 0 to 31", and "the newer rule covers lengths 0 to 30"
unfoldable pub last_len : ℕ → ℕ
last_len v = cond (eqb v 1) 31 30

-- the highest address of a route: its own bits, and ones after them
unfoldable pub highest : Route → ℕ
highest r = r.addr + 2 ^ (32 - r.len) - 1

-- the route is attached, its length is within the rule, and the address is its highest
unfoldable pub cast_of : ℕ → ℕ → Held → Bool
cast_of v a absent = false
cast_of v a (stood r) = eqb r.mark 1 && (leb r.len (last_len v) && eqb (highest r) a)

-- "whether the longest route covering it is attached and this is its broadcast"
unfoldable pub is_broadcast : ℕ → List Route → ℕ → Bool
is_broadcast v rs a = cast_of v a (best_route rs a)

-- "23, version neither 1 nor 2; the record input's come after it"; then 1 where the address is a broadcast, else 0
unfoldable pub cast_said : ℕ → List ℕ → ℕ → Said
cast_said v s a = cond (version_fine v) (and_then (input_said s) (accepted (bit (is_broadcast v (routes_in s) a) ∷ []))) (refused 23)

-- 1 for a broadcast, 0 for none
abbrev pub means_cast : Result Bool Refused → Said
means_cast = said_by (λ b. bit b ∷ [])
