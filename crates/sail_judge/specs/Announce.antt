-- What the judge of an announcement finds: the number with which it is refused; or 0, and then what the part that changes the table rests on.
use Rattle.std.specs.Prelude.{true, List, ◌≡◌, ℕ, ◌/◌, ◌≤◌, length}
use Rattle.routes.specs.Route.{key, Fine}
use Rattle.routes.specs.Record.{routes_of, Listed}
use Rattle.routes.specs.declared.Route.{Route}
use Rattle.standing.specs.Cells.{need}
use Rattle.standing.specs.Standing.{stands}
use Rattle.lists.specs.Place.{place_of}
use Rattle.sail.specs.Lent.{Lent}
use Rattle.sail.specs.Sound.{used}
use Rattle.sail.specs.declared.geometry.Geometry.{Geometry}
use Rattle.sail.specs.declared.table.Table.{Table}
use Rattle.sail_theory.specs.Calls.{Terms, announce_fault, announce_said}
use Rattle.sail_theory.specs.Facts.{Announceable}
use Rattle.sail_theory.specs.Judge.{Judged}
use Rattle.sail_chunks.specs.Trail.{Serving}
use Rattle.sail_chunks.specs.ToOpen.{Opens}
use Rattle.sail_judge.specs.declared.announce.AnnounceVerdict.{AnnounceVerdict}

-- where the key of the route is in a list s of n records, whether its prefix stands, and what is to be opened for it
pub record Found (g : Geometry) (s : List ℕ) (n : ℕ) (own2 : List ℕ) (r : Route) (f : AnnounceVerdict) : Type 0 where
  pub at : f.at ≡ place_of s n (key r)
  pub stood : f.stands ≡ stands (key r) (routes_of s n)
  pub opens : Opens g (routes_of s n) own2 r.addr r.len f.opens

-- What the judge of the room asks: a fine route, a good list, first and second cells that serve it, and as many chunks in use as its routes need,
-- which are within the limits. Nothing is asked of free chunks: others may have them.
pub record RoomReady (t : Table) (s first second own2 own3 : List ℕ) (r : Route) (most2 most3 : ℕ) : Type 0 where
  pub fine : Fine r
  pub listed : Listed s t.count
  pub serving : Serving t.geometry (routes_of s t.count) first second own2 own3
  pub needed2 : used own2 ≡ need (routes_of s t.count) t.geometry.p1
  pub needed3 : used own3 ≡ need (routes_of s t.count) t.geometry.p2
  pub within2 : used own2 ≤ most2
  pub within3 : used own3 ≤ most3

-- the terms of a table with this list and these limits
abbrev pub room_terms : Table → List ℕ → ℕ → ℕ → Terms
room_terms t s most2 most3 = record { geometry = t.geometry; room = length s / 8; most2 = most2; most3 = most3 }

-- the number with which these terms refuse the route, 6, 7 or 8; or 0, and what was found
pub record RoomJudged (m : Terms) (s : List ℕ) (n : ℕ) (own2 : List ℕ) (r : Route) (f : AnnounceVerdict) : Type 0 where
  pub number : f.number ≡ announce_fault true m (routes_of s n) r
  pub found : f.number ≡ 0 → Found m.geometry s n own2 r f

-- the route may be announced, and this was found of it
pub record ToAdd (t : Table) (l : Lent) (r : Route) (f : AnnounceVerdict) : Type 0 where
  pub may : Announceable t l r
  pub found : Found t.geometry l.list t.count l.own2 r f

abbrev pub AnnounceJudged : Table → Lent → Route → AnnounceVerdict → Type 0
AnnounceJudged t l r f = Judged f.number (announce_said t l r) (ToAdd t l r f)
