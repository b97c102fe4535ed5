-- One image for one set of routes, in document 02's words (n): what it is for two lists to have the same prefixes with the same hops, and for two
-- builds to leave the same arrays, or the same in the part of them that is used.
use mathlib.Core.List.{List, [], ◌∷◌, Memᴰ}
use Rattle.std.specs.Prelude.{◌↔◌, ◌≡◌, ℕ, ◌*◌, take}
use Rattle.routes.specs.Said.{accepted}
use Rattle.routes.specs.declared.Route.{Route}
use Rattle.tree_build.specs.Built.{ImageOut, built}

-- a route of the list has the prefix of address a and length l, and the hop h
pub record Has (rs : List Route) (a l h : ℕ) : Type 0 where
  pub route : Route
  pub listed : Memᴰ route rs
  pub addr_is : route.addr ≡ a
  pub len_is : route.len ≡ l
  pub hop_is : route.hop ≡ h

-- the same prefixes with the same hops
abbrev pub SameRoutes : List Route → List Route → Type 0
SameRoutes rs ss = (a l h : ℕ) → Has rs a l h ↔ Has ss a l h

-- the input s is built into the words ws and the hops hs, and takes n nodes and k hops
pub record Builds (s ws hs : List ℕ) (n k : ℕ) : Type 0 where
  pub said : (built s ws hs).said ≡ accepted (n ∷ k ∷ [])

-- equal words and equal hops
abbrev pub SameArrays : ImageOut → ImageOut → Type 0
SameArrays o p = (o.words ≡ p.words) × (o.hops ≡ p.hops)

-- equal words of the first n nodes, and the first k hops equal
abbrev pub SameUsed : ℕ → ℕ → ImageOut → ImageOut → Type 0
SameUsed n k o p = (take (3 * n) o.words ≡ take (3 * n) p.words) × (take k o.hops ≡ take k p.hops)
