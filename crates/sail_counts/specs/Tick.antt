-- One route more or less in the counts: at each level that it is longer than, one step at the place that serves it.
use Rattle.std.specs.Prelude.{Bool, true, false, cond, List, ◌≡◌, ℕ, suc, ◌-◌, ◌*◌, ◌^◌, ◌≤◌, ◌<◌, ltb, length, get_or, set}
use Rattle.bits.specs.Slot.{slot}
use Rattle.routes.specs.Record.{routes_of, Records}
use Rattle.routes.specs.declared.Route.{Route}
use Rattle.sail.specs.Geometry.{bits2, Valid}
use Rattle.sail.specs.Level.{entry, live_in, chunks_of, level1, level2}
use Rattle.sail.specs.Sound.{Shows}
use Rattle.sail.specs.Walk.{cell_place}
use Rattle.sail.specs.declared.geometry.Geometry.{Geometry}
use Rattle.sail_theory.specs.Render.{longs}
use Rattle.sail_theory.specs.Shared.{mixed}
use Rattle.sail_counts.specs.declared.tick.Left.{Left}

-- one more, or one less
abbrev pub step : Bool → ℕ → ℕ
step up n = cond up (suc n) (n - 1)

-- the counts after a step at place q, where the route is longer than the level
unfoldable pub ticked : Bool → Bool → ℕ → List ℕ → List ℕ
ticked longer up q counts = cond longer (set counts q (step up (get_or counts q 0))) counts

-- what is then left there; 1 where the route is no longer than the level, so that 0 says: no long route is left
unfoldable pub left_at : Bool → Bool → ℕ → List ℕ → ℕ
left_at longer up q counts = cond longer (step up (get_or counts q 0)) 1

-- the first cell of the address a, and the place of its second
abbrev pub first_cell : Geometry → List ℕ → ℕ → ℕ
first_cell g first a = get_or first (slot g.p1 a) 0

abbrev pub second_at : Geometry → List ℕ → ℕ → ℕ
second_at g first a = cell_place (bits2 g) (first_cell g first a) (slot g.p2 a)

-- a count of 16 bits can go the step
pub record Steps (up : Bool) (n : ℕ) : Type 0 where
  pub few : up ≡ true → n < 65535
  pub some : up ≡ false → 1 ≤ n

-- so can the one at place q
pub record Ticks (longer up : Bool) (q : ℕ) (counts : List ℕ) : Type 0 where
  pub inside : longer ≡ true → q < length counts
  pub steps : longer ≡ true → Steps up (get_or counts q 0)

pub record Ticked (longer up : Bool) (q : ℕ) (counts counts' : List ℕ) (left : ℕ) : Type 0 where
  pub now : counts' ≡ ticked longer up q counts
  pub is_left : left ≡ left_at longer up q counts

-- the counts of both levels can go the step for the prefix of len bits of a
pub record Tickable (g : Geometry) (a len : ℕ) (first long1 long2 : List ℕ) (up : Bool) : Type 0 where
  pub valid : Valid g
  pub there : slot g.p1 a < length first
  pub some : 1 ≤ first_cell g first a
  pub ticks1 : Ticks (ltb g.p1 len) up (slot g.p1 a) long1
  pub ticks2 : Ticks (ltb g.p2 len) up (second_at g first a) long2

-- and have gone it
pub record CountsMoved (g : Geometry) (a len : ℕ) (first long1 long2 : List ℕ) (up : Bool) (long1' long2' : List ℕ) (left : Left) : Type 0 where
  pub one : Ticked (ltb g.p1 len) up (slot g.p1 a) long1 long1' left.first
  pub two : Ticked (ltb g.p2 len) up (second_at g first a) long2 long2' left.second

-- n good records, first cells that serve their routes, and as many counts as cells; those of first cells and of live second cells are 0
pub record Uncounted (g : Geometry) (s : List ℕ) (n : ℕ) (first own2 long1 long2 : List ℕ) : Type 0 where
  pub records : Records s n
  pub valid : Valid g
  pub cells1 : length first ≡ 2 ^ g.p1
  pub shows1 : Shows (routes_of s n) (level1 g) (chunks_of own2) (entry first)
  pub counts1 : length long1 ≡ 2 ^ g.p1
  pub counts2 : length long2 ≡ length own2 * 2 ^ bits2 g
  pub zero1 : (q : ℕ) → get_or long1 q 0 ≡ 0
  pub zero2 : (q : ℕ) → q < length long2 → live_in (entry own2) (bits2 g) q ≡ true → get_or long2 q 0 ≡ 0

-- the counts of these routes at all first cells and at live second ones; the other second counts are what they were
pub record CountedAll (rs : List Route) (g : Geometry) (own2 long2 long1' long2' : List ℕ) : Type 0 where
  pub first : long1' ≡ longs rs (level1 g)
  pub second : long2' ≡ mixed own2 own2 (bits2 g) long2 (longs rs (level2 g (chunks_of own2)))
