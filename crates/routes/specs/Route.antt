-- Routes: their order in a list, and when a route and a list of routes are good.
use mathlib.Core.List.{List, [], ◌∷◌, Memᴰ}
use Rattle.std.specs.Prelude.{◌≡◌, ℕ, ◌+◌, ◌*◌, ◌^◌, ◌≤◌, ◌<◌}
use Rattle.bits.specs.Slot.{cut}
use Rattle.routes.specs.declared.Route.{Route}

-- the order of a list: by address, then by length
abbrev pub key_of : ℕ → ℕ → ℕ
key_of a l = a * 256 + l

abbrev pub key : Route → ℕ
key r = key_of r.addr r.len

-- a route with its mark put aside
abbrev pub plain : Route → Route
plain r = record { addr = r.addr; len = r.len; mark = 0; hop = r.hop }

-- an address of 32 bits, a length of at most 32, and no bit set after the length
pub record Prefix (a l : ℕ) : Type 0 where
  pub len_ok : l ≤ 32
  pub addr_ok : a < 2 ^ 32
  pub clear : cut l a ≡ a

-- such a prefix, a hop of 1 to 32,767, and a mark of 0, or 1 for attached
pub record Fine (r : Route) : Type 0 where
  pub prefix : Prefix r.addr r.len
  pub hop_one : 1 ≤ r.hop
  pub hop_ok : r.hop ≤ 32767
  pub mark_ok : r.mark ≤ 1

-- a good list: each route is fine, and comes before all after it
unfoldable pub Good : List Route → Type 0
Good [] = Unit
Good (r ∷ rs) = Fine r × ((s : Route) → Memᴰ s rs → key r < key s) × Good rs
