-- The counts of both levels through a change of one route: a step where it comes or goes, and owners that change where no long route is.
use mathlib.Core.Path.{◌≡◌, refl, sym, ◌∙◌, ap, subst}
use mathlib.Core.Logic.{◌⊎◌, inl, inr}
use mathlib.Core.Bool.{Bool, true, false, not, ◌&&◌}
use mathlib.Core.List.{List, []}
use Prim.Native.Nat.{ℕ, ◌*◌, ◌^◌, ◌≤◌, ◌<◌}
use native.Mathlib.Omega.{arith}
use lib.Dec.{eqb, ltb}
use lib.ListN.{get_or, length, length-set}
use borrow.Author.Tests.{ltb-true}
use Rattle.bits.specs.Slot.{slot}
use Rattle.bits.proofs.Bools.{decided}
use Rattle.standing.specs.Cells.{long}
use Rattle.routes.specs.declared.Route.{Route}
use Rattle.counts.specs.Counts.{how_many, OneMore}
use Rattle.counts.proofs.Stored.{counted-tallies}
use Rattle.sail.specs.Geometry.{bits2, Valid}
use Rattle.sail.specs.Level.{Level, entry, chunks_of, level1, level2}
use Rattle.sail.specs.Sound.{Shows, Counted}
use Rattle.sail.specs.declared.geometry.Geometry.{Geometry}
use Rattle.sail_theory.specs.Calls.{open_at, keep}
use Rattle.sail_theory.proofs.places.Places.{LiveFor, Apart, top_apart, top-served, below_apart}
use Rattle.sail_theory.proofs.places.Pools.{shows-fits}
use Rattle.sail_theory.proofs.owners.OpenAt.{OpenReady}
use Rattle.sail_theory.specs.Render.{longs}
use Rattle.sail_counts.specs.Counted.{Counts}
use Rattle.sail_counts.specs.Tick.{ticked, second_at, Ticks, Tickable, CountsMoved}
use Rattle.sail_counts.specs.declared.tick.Left.{Left}
use Rattle.sail_counts.proofs.Owners.{open-counted, keep-counted}
use Rattle.sail_counts.proofs.Ticks.{as-counted, up-counted, down-counted, up-ticks, down-ticks, down-left, ticked-as, left_as}
use Rattle.sail_counts.proofs.Leads.{first-there, second-place, second-served}

-- a step leaves as many counts
pub length-ticked : (longer up : Bool) (q : ℕ) (counts : List ℕ) → length (ticked longer up q counts) ≡ length counts
unfolding ticked
length-ticked true up q counts = length-set counts q _
length-ticked false up q counts = refl

-- The first cells serve `all`, among which the prefix of len bits of a stands, where it is longer than their level; and there are as many
-- counts as cells.
pub record Guided (g : Geometry) (all : List Route) (a len : ℕ) (first own2 long1 long2 : List ℕ) : Type 0 where
  pub valid : Valid g
  pub cells1 : length first ≡ 2 ^ g.p1
  pub shows1 : Shows all (level1 g) (chunks_of own2) (entry first)
  pub small : a < 2 ^ 32
  pub held : g.p1 < len → long all g.p1 (slot g.p1 a) ≡ true
  pub counts1 : length long1 ≡ 2 ^ g.p1
  pub counts2 : length long2 ≡ length own2 * 2 ^ bits2 g

module _ (g : Geometry) (all : List Route) (a len : ℕ) (first own2 long1 long2 : List ℕ) (w : Guided g all a len first own2 long1 long2)
    (rs rs' : List Route) (m : OneMore a len rs rs') where
  abbrev v1 : Level
  v1 = level1 g

  abbrev v2 : Level
  v2 = level2 g (chunks_of own2)

  served1 : LiveFor v1 a
  served1 = let z = w.valid in top-served g.p1 a (omega arith) w.small

  apart2 : Apart v2
  apart2 = below_apart all v1 (chunks_of own2) g.p2 (shows-fits all v1 (chunks_of own2) (entry first) w.shows1) (top_apart g.p1)

  -- longer than the second level, and so than the first
  over : g.p2 < len → long all g.p1 (slot g.p1 a) ≡ true
  over l = let z = w.valid in w.held (omega arith)

  served2 : g.p2 < len → LiveFor v2 a
  served2 l = second-served g w.valid all first own2 w.cells1 w.shows1 a w.small (over l)

  here : ltb g.p2 len ≡ true → second_at g first a ≡ v2.serving a
  here e = second-place g w.valid all first own2 w.cells1 w.shows1 a w.small (over (ltb-true g.p2 len e))

  -- a first cell is a leaf or names a chunk
  some_first : 1 ≤ get_or first (slot g.p1 a) 0
  some_first = go (decided (long all g.p1 (slot g.p1 a)))
    where
      go : (long all g.p1 (slot g.p1 a) ≡ true) ⊎ (long all g.p1 (slot g.p1 a) ≡ false) → 1 ≤ get_or first (slot g.p1 a) 0
      go (inl e) = (w.shows1.node (slot g.p1 a) served1.inside refl e).one
      go (inr e) = omega (arith, w.shows1.leaf (slot g.p1 a) served1.inside refl e)

  module _ (up : Bool) where
    tickable : Ticks (ltb g.p1 len) up (slot g.p1 a) long1 → Ticks (ltb g.p2 len) up (v2.serving a) long2 → Tickable g a len first long1 long2 up
    tickable t u = record {
      valid = w.valid;
      there = first-there g w.valid all first own2 w.cells1 w.shows1 a w.small;
      some = some_first;
      ticks1 = t;
      ticks2 = record { inside = λ e. rw (here e) (u.inside e); steps = λ e. rw (here e) (u.steps e) };
    }

    -- what has moved is the place that serves the address
    moved-second : (long1' long2' : List ℕ) (left : Left) → CountsMoved g a len first long1 long2 up long1' long2' left
        → long2' ≡ ticked (ltb g.p2 len) up (v2.serving a) long2
    moved-second long1' long2' left t = t.two.now ∙ ticked-as (ltb g.p2 len) up (second_at g first a) (v2.serving a) long2 here

  -- The route comes: its place counts one more at each level that it is longer than, and all other places what they did.
  pub up-tickable : length rs ≤ 4096 → Counts rs g own2 long1 long2 → Tickable g a len first long1 long2 true
  up-tickable few c =
      tickable true
      (up-ticks a len rs rs' m v1 (top_apart g.p1) (λ l. served1) long1 w.counts1 few c.first)
      (up-ticks a len rs rs' m v2 apart2 served2 long2 w.counts2 few c.second)

  pub up-counts : Counts rs g own2 long1 long2 → (long1' long2' : List ℕ) (left : Left) → CountsMoved g a len first long1 long2 true long1' long2' left
      → Counts rs' g own2 long1' long2'
  up-counts c long1' long2' left t = record {
    first = subst (Counted rs' v1) (sym t.one.now) (up-counted a len rs rs' m v1 (top_apart g.p1) (λ l. served1) long1 w.counts1 c.first);
    second = subst (Counted rs' v2) (sym (moved-second true long1' long2' left t))
        (up-counted a len rs rs' m v2 apart2 served2 long2 w.counts2 c.second);
  }

  -- The route goes: one less. What is left is 0 exactly where the route alone needed a chunk at the level.
  pub down-tickable : Counts rs' g own2 long1 long2 → Tickable g a len first long1 long2 false
  down-tickable c =
      tickable false
      (down-ticks a len rs rs' m v1 (top_apart g.p1) (λ l. served1) long1 w.counts1 c.first)
      (down-ticks a len rs rs' m v2 apart2 served2 long2 w.counts2 c.second)

  module _ (c : Counts rs' g own2 long1 long2) (long1' long2' : List ℕ) (left : Left) (t : CountsMoved g a len first long1 long2 false long1' long2' left) where
    pub down-counts : Counts rs g own2 long1' long2'
    down-counts = record {
      first = subst (Counted rs v1) (sym t.one.now) (down-counted a len rs rs' m v1 (top_apart g.p1) (λ l. served1) long1 w.counts1 c.first);
      second = subst (Counted rs v2) (sym (moved-second false long1' long2' left t))
          (down-counted a len rs rs' m v2 apart2 served2 long2 w.counts2 c.second);
    }

    pub closes-first : eqb left.first 0 ≡ (ltb g.p1 len && not (long rs g.p1 (slot g.p1 a)))
    closes-first =
        ap (λ (x : ℕ). eqb x 0) t.one.is_left
        ∙ down-left a len rs rs' m v1 (top_apart g.p1) (λ l. served1) long1 w.counts1 c.first

    pub closes-second : eqb left.second 0 ≡ (ltb g.p2 len && not (long rs g.p2 (slot g.p2 a)))
    closes-second =
        ap (λ (x : ℕ). eqb x 0) (t.two.is_left ∙ left_as (ltb g.p2 len) false (second_at g first a) (v2.serving a) long2 here)
        ∙ down-left a len rs rs' m v2 apart2 served2 long2 w.counts2 c.second

-- Owners that change: a second chunk is opened for a route that comes, and those that are no longer needed are closed.
module _ (g : Geometry) (valid : Valid g) (rs : List Route) (own2 long1 long2 : List ℕ) (c : Counts rs g own2 long1 long2) where
  pub open-counts : (r : Route) (n : ℕ) → OpenReady rs r (level1 g) own2 n → Counts rs g (open_at (level1 g) own2 n r) long1 long2
  open-counts r n w = record { first = c.first; second = open-counted rs r (level1 g) own2 n w g.p2 (omega arith) (omega arith) long2 c.second }

  pub keep-counts : Counts rs g (keep rs (level1 g) own2) long1 long2
  keep-counts = record { first = c.first; second = keep-counted rs (level1 g) own2 g.p2 (omega arith) (omega arith) long2 c.second }

  -- the same for routes that count alike: one of them is replaced
  pub as-counts : (rs' : List Route) → ((p i : ℕ) → how_many rs' p i ≡ how_many rs p i) → Counts rs' g own2 long1 long2
  as-counts rs' e = record {
    first = as-counted rs rs' (level1 g) long1 e c.first;
    second = as-counted rs rs' (level2 g (chunks_of own2)) long2 e c.second;
  }

  -- and these are the arrays that the routes and owners give
  pub counts-are : length long1 ≡ 2 ^ g.p1 → length long2 ≡ length own2 * 2 ^ bits2 g
      → (long1 ≡ longs rs (level1 g)) × (long2 ≡ longs rs (level2 g (chunks_of own2)))
  counts-are h k = (
    counted-tallies rs g.p1 (2 ^ g.p1) _ _ long1 h c.first,
    counted-tallies rs g.p2 (length own2 * 2 ^ bits2 g) _ _ long2 k c.second,
  )

-- no routes: every count is 0
pub none-counts : (g : Geometry) (own2 long1 long2 : List ℕ) → ((q : ℕ) → get_or long1 q 0 ≡ 0) → ((q : ℕ) → get_or long2 q 0 ≡ 0) → Counts [] g own2 long1 long2
unfolding how_many
none-counts g own2 long1 long2 h k = record {
  first = record { true_there = λ q l e. h q; blank = λ q l e. h q };
  second = record { true_there = λ q l e. k q; blank = λ q l e. k q };
}
