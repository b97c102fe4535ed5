-- The routes of a hop function, in the order of a list; and with it the routes that words and hops hold. Marks stand in no image: a route that is
-- read out of one has mark 0.
use Rattle.std.specs.Prelude.{cond, List, [], ◌∷◌, ◌++◌, ◌≡◌, ℕ, zero, suc, ◌+◌, ◌-◌, ◌*◌, ◌^◌, ltb}
use Rattle.routes.specs.declared.Route.{Route}
use Rattle.tree_image.specs.Image.{hop_for}
use Rattle.tree_same.specs.Read.{read_out}

-- the route of length l whose bits are q, to the hop h
abbrev pub route_of : ℕ → ℕ → ℕ → Route
route_of l q h = record { addr = q * 2 ^ (32 - l); len = l; mark = 0; hop = h }

-- it alone, if it has a hop
unfoldable pub own : (ℕ → ℕ → ℕ) → ℕ → ℕ → List Route
own hop l q = cond (ltb 0 (hop l q)) (route_of l q (hop l q) ∷ []) []

-- the routes under the prefix of length l whose bits are q, with d bits after it: its own, those whose next bit is 0, those whose
-- next bit is 1. It is a definition to speak of, and nothing computes it.
unfoldable pub listed : (ℕ → ℕ → ℕ) → ℕ → ℕ → ℕ → List Route
listed hop zero l q = own hop l q
listed hop (suc d) l q = own hop l q ++ (listed hop d (suc l) (q + q) ++ listed hop d (suc l) (q + q + 1))

-- the same prefixes with the same hops
abbrev pub SameHops : List Route → List Route → Type 0
SameHops rs ss = (l q : ℕ) → hop_for rs l q ≡ hop_for ss l q

-- the routes that words and hops hold
abbrev pub routes_held : List ℕ → List ℕ → List Route
routes_held ws hs = listed (read_out ws hs) 32 0 0
