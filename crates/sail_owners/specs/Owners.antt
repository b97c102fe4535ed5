-- The owners of a load as they grow: what opening a chunk after all others asks and leaves, at one level and at both. The pools may be others' too.
-- Then a table adds the number `top` to the owners that it writes, and a chunk that another has is not free.
use Rattle.std.specs.Prelude.{cond, List, [], ◌∷◌, ◌≡◌, ◌≢◌, ℕ, suc, ◌+◌, ◌-◌, ◌*◌, ◌/◌, ◌%◌, ◌^◌, ◌≤◌, ◌<◌, ltb, length, get_or, set, replicate}
use Rattle.bits.specs.Slot.{slot}
use Rattle.routes.specs.Route.{Fine}
use Rattle.standing.specs.Cells.{need}
use Rattle.routes.specs.Record.{Records}
use Rattle.routes.specs.declared.Route.{Route}
use Rattle.sail.specs.Geometry.{bits2, Valid}
use Rattle.sail.specs.Sound.{used}
use Rattle.sail.specs.declared.geometry.Geometry.{Geometry}
use Rattle.sail_theory.specs.Render.{find}
use Rattle.sail_theory.specs.Calls.{Owners, input_routes}
use Rattle.sail_owners.specs.declared.owners.Passes.{Passes}

abbrev pub owners : List ℕ → List ℕ → Owners
owners own2 own3 = record { own2 = own2; own3 = own3 }

-- a chunk has the owner o; if none had, the lowest free one gets it
unfoldable pub granted : List ℕ → ℕ → List ℕ
granted own o = cond (ltb (find own o) (length own)) own (set own (find own 0) o)

-- a route longer than p bits has a chunk of the table, which hangs from the place q
unfoldable pub open_from : ℕ → ℕ → ℕ → List ℕ → Route → List ℕ
open_from top p q own r = cond (ltb p r.len) (granted own (top + suc q)) own

-- the second owners after r is announced, and then the place in the second pool that serves it
abbrev pub second_from : ℕ → Geometry → List ℕ → Route → List ℕ
second_from top g own2 r = open_from top g.p1 (slot g.p1 r.addr) own2 r

abbrev pub place_from : ℕ → Geometry → List ℕ → Route → ℕ
place_from top g own2 r = find own2 (top + suc (slot g.p1 r.addr)) * 2 ^ bits2 g + slot g.p2 r.addr % 2 ^ bits2 g

-- the owners after r is announced
abbrev pub opened_from : ℕ → Geometry → Owners → Route → Owners
opened_from top g o r = record {
  own2 = second_from top g o.own2 r;
  own3 = open_from top g.p2 (place_from top g (second_from top g o.own2 r) r) o.own3 r;
}

-- after each of these is, in order. With top 0 it is `owners_after` (`from-none`, proofs/Froms.antt)
unfoldable pub owners_from : ℕ → Geometry → Owners → List Route → Owners
owners_from top g o [] = o
owners_from top g o (r ∷ rs) = owners_from top g (opened_from top g o r) rs

-- every chunk before c is in use
pub record Past (own : List ℕ) (c : ℕ) : Type 0 where
  pub few : c ≤ length own
  pub used : (j : ℕ) → j < c → get_or own j 0 ≢ 0

-- there is a last chunk, the m-th, and o is its owner
pub record LastIs (own : List ℕ) (m o : ℕ) : Type 0 where
  pub some : 0 < m
  pub is : get_or own (m - 1) 0 ≡ o

-- A chunk may get the owner o. The last chunk opened, the m-th, decides: it has this owner; or none has, and a chunk is free.
pub record MayOwn (own : List ℕ) (m o : ℕ) : Type 0 where
  pub past : Past own m
  pub some : 1 ≤ o
  pub had : LastIs own m o → suc (find own o) ≡ m
  pub new : (LastIs own m o → ⊥) → (find own 0 < length own) × (length own ≤ find own o)

-- the owners stay, or the lowest free chunk gets the owner o
pub data OwnersMoved (own : List ℕ) (m o : ℕ) (own' : List ℕ) (n : ℕ) : Type 0 where
  stays : LastIs own m o → own' ≡ own → n ≡ m → OwnersMoved own m o own' n
  goes : (LastIs own m o → ⊥) → own' ≡ set own (find own 0) o → n ≡ suc (find own 0) → OwnersMoved own m o own' n

-- A chunk has the owner o, and it is the last that was opened, the n-th.
pub record HasOwner (own : List ℕ) (m o : ℕ) (own' : List ℕ) (n : ℕ) : Type 0 where
  pub moved : OwnersMoved own m o own' n
  pub is : own' ≡ granted own o
  pub past : Past own' n
  pub last : suc (find own' o) ≡ n

-- The route r comes after all those that the owners serve. If it is longer than p bits, its place q may get a chunk.
pub record Next (top p q : ℕ) (r : Route) (m : ℕ) (own : List ℕ) : Type 0 where
  pub past : Past own m
  pub hangs : p < r.len → MayOwn own m (top + suc q)

-- how a pool's owners and its pass moved: not at all, or as for a chunk that hangs from q
pub data Step (top p q : ℕ) (r : Route) (own : List ℕ) (m : ℕ) (own' : List ℕ) (n : ℕ) : Type 0 where
  none : r.len ≤ p → own' ≡ own → n ≡ m → Step top p q r own m own' n
  hung : p < r.len → OwnersMoved own m (top + suc q) own' n → Step top p q r own m own' n

-- its chunk is opened
pub record Taken (top p q : ℕ) (r : Route) (own : List ℕ) (m n : ℕ) (own' : List ℕ) : Type 0 where
  pub is : own' ≡ open_from top p q own r
  pub past : Past own' n
  pub step : Step top p q r own m own' n

-- at both levels
pub record OpenForReady (top : ℕ) (g : Geometry) (r : Route) (u : Passes) (own2 own3 : List ℕ) : Type 0 where
  pub valid : Valid g
  pub fine : Fine r
  pub few2 : length own2 ≤ 4096
  pub small : top ≤ 2147483648
  pub second : Next top g.p1 (slot g.p1 r.addr) r u.second own2
  pub third : Next top g.p2 (place_from top g (second_from top g own2 r) r) r u.third own3

pub record Opened (top : ℕ) (g : Geometry) (r : Route) (own2 own3 : List ℕ) (u s : Passes) (own2' own3' : List ℕ) : Type 0 where
  pub second : Taken top g.p1 (slot g.p1 r.addr) r own2 u.second s.second own2'
  pub third : Taken top g.p2 (place_from top g (second_from top g own2 r) r) r own3 u.third s.third own3'

-- no owner is one that the table would write
pub record NoneOwn (top : ℕ) (own : List ℕ) : Type 0 where
  pub none : (c q : ℕ) → suc q < 2147483648 → get_or own c 0 ≢ top + suc q

-- good records, as many free chunks as their routes need, and none that is the table's own
pub record Between (top : ℕ) (g : Geometry) (input own2 own3 : List ℕ) : Type 0 where
  pub valid : Valid g
  pub records : Records input (length input / 8)
  pub small : top ≤ 2147483648
  pub few2 : length own2 ≤ 4096
  pub few3 : length own3 ≤ 4096
  pub enough2 : used own2 + need (input_routes input) g.p1 ≤ length own2
  pub enough3 : used own3 + need (input_routes input) g.p2 ≤ length own3
  pub none2 : NoneOwn top own2
  pub none3 : NoneOwn top own3

-- good records, as many chunks as their routes need, and none in use
pub record Ownable (g : Geometry) (input own2 own3 : List ℕ) : Type 0 where
  pub valid : Valid g
  pub records : Records input (length input / 8)
  pub few2 : length own2 ≤ 4096
  pub few3 : length own3 ≤ 4096
  pub enough2 : need (input_routes input) g.p1 ≤ length own2
  pub enough3 : need (input_routes input) g.p2 ≤ length own3
  pub none2 : own2 ≡ replicate (length own2) 0
  pub none3 : own3 ≡ replicate (length own3) 0
