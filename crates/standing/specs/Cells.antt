-- What routes say of a cell. Level p has 2 ^ p cells; cell i of level p holds the addresses a with slot p a ≡ i.
-- At level 32 a cell is one address. The mark of a route has no part in any of this: proofs/Marks.antt.
use Rattle.std.specs.Prelude.{Bool, true, false, ◌&&◌, ◌||◌, not, cond, ◌≡◌, ℕ, zero, suc, ◌+◌, ◌-◌, ◌/◌, ◌^◌, ◌≤◌, eqb, ltb, leb}
use mathlib.Core.List.{List, [], ◌∷◌, Memᴰ}
use Rattle.bits.specs.Slot.{slot}
use Rattle.bits.specs.Count.{bit}
use Rattle.routes.specs.declared.Route.{Route}

-- the route's length is at most p, and its bits are the first bits of cell i of level p
abbrev pub covers : ℕ → ℕ → Route → Bool
covers p i r = leb r.len p && eqb (slot r.len r.addr) (i / 2 ^ (p - r.len))

-- h is the hop of a route that covers the cell, and no route that covers it is longer
pub record Longest (rs : List Route) (p i h : ℕ) : Type 0 where
  pub route : Route
  pub listed : Memᴰ route rs
  pub covering : covers p i route ≡ true
  pub longest : (r : Route) → Memᴰ r rs → covers p i r ≡ true → r.len ≤ route.len
  pub its_hop : h ≡ route.hop

-- or no route covers it, and h is 0
pub data Best (rs : List Route) (p i h : ℕ) : Type 0 where
  none : h ≡ 0 → ((r : Route) → Memᴰ r rs → covers p i r ≡ false) → Best rs p i h
  one : Longest rs p i h → Best rs p i h

-- the route's prefix is cell j of level l
abbrev pub here : ℕ → ℕ → Route → Bool
here l j r = eqb r.len l && eqb (slot l r.addr) j

-- the route is longer than p and has the bits of cell i of level p
abbrev pub within : ℕ → ℕ → Route → Bool
within p i r = ltb p r.len && eqb (slot p r.addr) i

-- some route passes the test
unfoldable pub any : (Route → Bool) → List Route → Bool
any f [] = false
any f (r ∷ rs) = f r || any f rs

-- 1 + the hop of the first route that passes the test, and 0 if none does
unfoldable pub first : (Route → Bool) → List Route → ℕ
first f [] = 0
first f (r ∷ rs) = cond (f r) (suc r.hop) (first f rs)

abbrev pub or_else : ℕ → ℕ → ℕ
or_else zero d = d
or_else (suc h) d = h

-- some route longer than p has the bits of cell i of level p
abbrev pub long : List Route → ℕ → ℕ → Bool
long rs p i = any (within p i) rs

-- the hop of the longest route of length at most p that covers cell i of level p, and 0 if there is none:
-- the route for exactly this cell, and otherwise the best for the cell of the level above that holds it
unfoldable pub best : List Route → ℕ → ℕ → ℕ
best rs zero i = or_else (first (here zero i) rs) 0
best rs (suc p) i = or_else (first (here (suc p) i) rs) (best rs p (i / 2))

-- how many different cells of level p are long: each is counted at its last route
unfoldable pub need : List Route → ℕ → ℕ
need [] p = 0
need (r ∷ rs) p = bit (ltb p r.len && not (long rs p (slot p r.addr))) + need rs p

-- the hop of the last route that passes the test, and d if none does
unfoldable pub last_hop : (Route → Bool) → List Route → ℕ → ℕ
last_hop f [] d = d
last_hop f (r ∷ rs) d = last_hop f rs (cond (f r) r.hop d)
