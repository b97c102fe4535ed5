-- What holds where a call is accepted, as facts. A program's test of its arguments hands these on, and the part that changes the table
-- rests on them.
use Rattle.std.specs.Prelude.{true, false, List, ◌≡◌, ℕ, ◌≤◌, ◌<◌, ltb, get_or, length}
use Rattle.bits.specs.Slot.{slot}
use Rattle.routes.specs.Route.{key_of, Prefix, Fine, Good}
use Rattle.standing.specs.Cells.{long, need}
use Rattle.routes.specs.Record.{written}
use Rattle.standing.specs.Standing.{stands, insert}
use Rattle.routes.specs.declared.Route.{Route}
use Rattle.sail.specs.Lent.{Lent}
use Rattle.sail.specs.Sizes.{Sized}
use Rattle.sail.specs.Sound.{Sound, standing}
use Rattle.sail.specs.declared.table.Table.{Table}
use Rattle.sail_theory.specs.Render.{room_of}

-- as many of everything is lent
pub record SameSize (l u : Lent) : Type 0 where
  pub list : length u.list ≡ length l.list
  pub first : length u.first ≡ length l.first
  pub second : length u.second ≡ length l.second
  pub third : length u.third ≡ length l.third
  pub chunks2 : length u.own2 ≡ length l.own2
  pub chunks3 : length u.own3 ≡ length l.own3
  pub counts1 : length u.long1 ≡ length l.long1
  pub counts2 : length u.long2 ≡ length l.long2

-- the same in the three arrays of cells
pub record SameCells (l u : Lent) : Type 0 where
  pub first : l.first ≡ u.first
  pub second : l.second ≡ u.second
  pub third : l.third ≡ u.third

-- a sound table of the same geometry and sizes, whose list holds these routes, in order, and zero bytes after them
pub record TableHolds (t : Table) (l : Lent) (rs : List Route) (u : Table) (v : Lent) : Type 0 where
  pub sound : Sound u v
  pub routes : standing u v ≡ rs
  pub list : v.list ≡ written rs (room_of l)
  pub count : u.count ≡ length rs
  pub geometry : u.geometry ≡ t.geometry
  pub size : SameSize l v

-- the route r may be announced
pub record Announceable (t : Table) (l : Lent) (r : Route) : Type 0 where
  pub fine : Fine r
  pub sound : Sound t l
  pub roomy : length (insert r (standing t l)) ≤ room_of l
  pub enough2 : need (insert r (standing t l)) t.geometry.p1 ≤ length l.own2
  pub enough3 : need (insert r (standing t l)) t.geometry.p2 ≤ length l.own3

-- The route r may be announced, and c2 and c3 are free chunks wherever it has to open one: where it is longer than a level, and no standing route
-- that is longer than the level has its bits.
pub record AnnounceableWith (t : Table) (l : Lent) (r : Route) (c2 c3 : ℕ) : Type 0 where
  pub fine : Fine r
  pub sound : Sound t l
  pub roomy : length (insert r (standing t l)) ≤ room_of l
  pub free2 : ltb t.geometry.p1 r.len ≡ true → long (standing t l) t.geometry.p1 (slot t.geometry.p1 r.addr) ≡ false
      → (c2 < length l.own2) × (get_or l.own2 c2 0 ≡ 0)
  pub free3 : ltb t.geometry.p2 r.len ≡ true → long (standing t l) t.geometry.p2 (slot t.geometry.p2 r.addr) ≡ false
      → (c3 < length l.own3) × (get_or l.own3 c3 0 ≡ 0)

-- the prefix may be withdrawn
pub record Withdrawable (t : Table) (l : Lent) (a len : ℕ) : Type 0 where
  pub prefix : Prefix a len
  pub sound : Sound t l
  pub old : stands (key_of a len) (standing t l) ≡ true

-- the routes rs may be loaded
pub record Loadable (t : Table) (l : Lent) (rs : List Route) : Type 0 where
  pub sized : Sized t.geometry l
  pub good : Good rs
  pub roomy : length rs ≤ room_of l
  pub enough2 : need rs t.geometry.p1 ≤ length l.own2
  pub enough3 : need rs t.geometry.p2 ≤ length l.own3
