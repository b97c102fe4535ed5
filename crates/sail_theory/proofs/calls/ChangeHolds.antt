-- Announce and withdraw: what is left where they are accepted is sound, and its list holds the routes that then stand; and a chunk more is
-- needed exactly where one has to be opened. What is left is rendered for these routes and owners, so all that is to be shown is that the owners
-- fit: at the first level, and at the second below what is then the first.
use mathlib.Core.Path.{◌≡◌, refl, sym, ◌∙◌, ap}
use mathlib.Core.Logic.{◌≢◌}
use mathlib.Core.Bool.{true}
use mathlib.Core.List.{List}
use Prim.Native.Nat.{ℕ, ◌*◌, ◌^◌, ◌≤◌}
use native.Mathlib.Omega.{arith}
use lib.ListN.{length}
use Rattle.bits.specs.Slot.{slot}
use Rattle.routes.specs.Route.{key_of, Fine, Good}
use Rattle.standing.specs.Cells.{within, long, need}
use Rattle.standing.specs.Standing.{insert, remove}
use Rattle.routes.specs.declared.Route.{Route}
use Rattle.standing.proofs.Standing.{insert-good, remove-good, remove-length, remove-any}
use Rattle.standing.proofs.Changed.{remove-long}
use Rattle.routes.proofs.Rows.{length-written, length-routes}
use Rattle.sail.specs.Geometry.{bits2, bits3}
use Rattle.sail.specs.Lent.{Lent}
use Rattle.sail.specs.Level.{Level, chunks_of, level1, level2}
use Rattle.sail.specs.Sizes.{Sized}
use Rattle.sail.specs.Sound.{Sound, standing}
use Rattle.sail.specs.declared.geometry.Geometry.{Geometry}
use Rattle.sail.specs.declared.table.Table.{Table}
use Rattle.sail.proofs.Sounds.{standing-good}
use Rattle.sail_theory.specs.Render.{find, Fits, room_of, Rendered}
use Rattle.sail_theory.specs.Calls.{Owners, opened_at, opened, owners_kept, owners_of, state_of, lent_of}
use Rattle.sail_theory.specs.Facts.{SameSize, TableHolds, Announceable, AnnounceableWith, Withdrawable}
use Rattle.sail_theory.proofs.owners.Chunks.{chunk-at, used-free}
use Rattle.sail_theory.proofs.places.Rendered.{sound-rendered, Renders, render-standing, render-sized, render-sound}
use Rattle.sail_theory.proofs.owners.GrantKeep.{length-keep, keep-closed, Losing}
use Rattle.standing.proofs.NeedAfter.{need-more}
use Rattle.standing.proofs.TwoLevels.{slot-down, long-down}
use Rattle.sail_theory.proofs.places.Places.{LiveFor, top-served, below-served, top_apart, below_apart}
use Rattle.sail_theory.proofs.owners.StillFit.{fits_kept, below-kept}
use Rattle.sail_theory.proofs.owners.OpenAt.{Space, OpenReady, length-open, open-fits, ready-below}
use Rattle.sail_theory.proofs.owners.UsedNeed.{Enough, seven, eight}

-- Arrays of these sizes can be rendered for the routes rs and the owners o: the routes are good and within the room, and as many owners as there
-- were fit them.
pub record Fitting (t : Table) (l : Lent) (rs : List Route) (o : Owners) : Type 0 where
  pub sized : Sized t.geometry l
  pub good : Good rs
  pub roomy : length rs ≤ room_of l
  pub len2 : length o.own2 ≡ length l.own2
  pub len3 : length o.own3 ≡ length l.own3
  pub fits2 : Fits rs (level1 t.geometry) (chunks_of o.own2)
  pub fits3 : Fits rs (level2 t.geometry (chunks_of o.own2)) (chunks_of o.own3)

-- what is rendered then holds these routes
module _ (t : Table) (l : Lent) (rs : List Route) (o : Owners) (k : Fitting t l rs o) where
  abbrev z : Sized t.geometry l
  z = k.sized

  renders : Renders t.geometry (room_of l) rs o.own2 o.own3
  renders = record {
    valid = z.valid;
    few = omega (arith, z.room);
    good = k.good;
    roomy = k.roomy;
    few2 = omega (arith, k.len2, z.few2);
    few3 = omega (arith, k.len3, z.few3);
  }

  sized : Sized t.geometry (lent_of t l rs o)
  sized = render-sized t.geometry (room_of l) rs o.own2 o.own3 renders

  seconds : length (lent_of t l rs o).second ≡ length l.second
  seconds = sized.cells2 ∙ ap (λ (n : ℕ). n * 2 ^ bits2 t.geometry) k.len2 ∙ sym z.cells2

  size : SameSize l (lent_of t l rs o)
  size = record {
    list = omega (arith, length-written rs (room_of l), z.whole);
    first = sized.cells1 ∙ sym z.cells1;
    second = seconds;
    third = sized.cells3 ∙ ap (λ (n : ℕ). n * 2 ^ bits3 t.geometry) k.len3 ∙ sym z.cells3;
    chunks2 = k.len2;
    chunks3 = k.len3;
    counts1 = sized.counts1 ∙ sym z.counts1;
    counts2 = sized.counts2 ∙ seconds ∙ sym z.counts2;
  }

  pub render-holds : TableHolds t l rs (state_of t rs) (lent_of t l rs o)
  render-holds = record {
    sound = render-sound t.geometry (room_of l) rs o.own2 o.own3 renders k.fits2 k.fits3;
    routes = render-standing t.geometry (room_of l) rs o.own2 o.own3 renders;
    list = refl;
    count = refl;
    geometry = refl;
    size = size;
  }

-- where one chunk more is needed, one is free
module _ (rs : List Route) (r : Route) (v : Level) (own : List ℕ) (w : Enough rs v.bits own) (fine : Fine r) where
  pub enough-space : need (insert r rs) v.bits ≤ length own → Space rs r v own (find own 0)
  enough-space n e f =
      let h = used-free (chunks_of own) (omega (arith, w.counted, need-more r rs fine w.good v.bits w.small e f)) in
      (h, chunk-at (chunks_of own) 0 h)

-- A route may be announced in a sound table, and the chunks that it opens are c2 and c3: at the first level, and after that at the second.
pub record AnnounceableAt (t : Table) (l : Lent) (r : Route) (c2 c3 : ℕ) : Type 0 where
  pub fine : Fine r
  pub sound : Sound t l
  pub roomy : length (insert r (standing t l)) ≤ room_of l
  pub first : OpenReady (standing t l) r (level1 t.geometry) l.own2 c2
  pub second : OpenReady (standing t l) r (level2 t.geometry (chunks_of (opened_at t.geometry (owners_of l) c2 c3 r).own2)) l.own3 c3

module _ (t : Table) (l : Lent) (r : Route) (c2 c3 : ℕ) (w : AnnounceableAt t l r c2 c3) where
  abbrev g : Geometry
  g = t.geometry

  abbrev rs : List Route
  rs = standing t l

  abbrev now : Owners
  now = opened_at g (owners_of l) c2 c3 r

  pub at-fits2 : Fits (insert r rs) (level1 g) (chunks_of now.own2)
  at-fits2 = open-fits rs r (level1 g) l.own2 c2 w.first

  pub at-fits3 : Fits (insert r rs) (level2 g (chunks_of now.own2)) (chunks_of now.own3)
  at-fits3 = open-fits rs r (level2 g (chunks_of now.own2)) l.own3 c3 w.second

  pub at-holds : TableHolds t l (insert r rs) (state_of t (insert r rs)) (lent_of t l (insert r rs) now)
  at-holds = render-holds t l (insert r rs) now (record {
    sized = w.sound.sized;
    good = insert-good r rs w.fine (standing-good t l w.sound);
    roomy = w.roomy;
    len2 = length-open (level1 g) l.own2 c2 r;
    len3 = length-open (level2 g (chunks_of now.own2)) l.own3 c3 r;
    fits2 = at-fits2;
    fits3 = at-fits3;
  })

-- Said by facts: chunks that fit a level where they do, and any free ones to open, at the first level and below it.
module _ (t : Table) (l : Lent) (r : Route) (c2 c3 : ℕ) (w : AnnounceableWith t l r c2 c3) where
  abbrev geo : Geometry
  geo = t.geometry

  is : Rendered t l
  is = sound-rendered t l w.sound

  with1 : OpenReady (standing t l) r (level1 geo) l.own2 c2
  with1 =
      let v = w.sound.sized.valid in
      record {
        fine = w.fine;
        good = standing-good t l w.sound;
        fits = is.fits2;
        apart = top_apart geo.p1;
        served = λ e. top-served geo.p1 r.addr (omega arith) w.fine.prefix.addr_ok;
        space = w.free2;
      }

  pub with_at : AnnounceableAt t l r c2 c3
  with_at =
      let v = w.sound.sized.valid in
      record {
        fine = w.fine;
        sound = w.sound;
        roomy = w.roomy;
        first = with1;
        second = ready-below (standing t l) r (level1 geo) l.own2 c2 with1 geo.p2 (omega arith) (omega arith) l.own3 c3 is.fits3 w.free3;
      }

-- an announcement that is accepted opens the lowest free chunks
module _ (t : Table) (l : Lent) (r : Route) (w : Announceable t l r) where
  abbrev had : List Route
  had = standing t l

  abbrev after : Owners
  after = opened t.geometry (owners_of l) r

  pub lowest-with : AnnounceableWith t l r (find l.own2 0) (find l.own3 0)
  lowest-with = record {
    fine = w.fine;
    sound = w.sound;
    roomy = w.roomy;
    free2 = enough-space had r (level1 t.geometry) l.own2 (seven t l w.sound) w.fine w.enough2;
    free3 = enough-space had r (level2 t.geometry (chunks_of after.own2)) l.own3 (eight t l w.sound) w.fine w.enough3;
  }

  pub lowest-at : AnnounceableAt t l r (find l.own2 0) (find l.own3 0)
  lowest-at = with_at t l r _ _ lowest-with

  pub ready1 : OpenReady had r (level1 t.geometry) l.own2 (find l.own2 0)
  ready1 = lowest-at.first

  pub ready2 : OpenReady had r (level2 t.geometry (chunks_of after.own2)) l.own3 (find l.own3 0)
  ready2 = lowest-at.second

  pub welcome-fits2 : Fits (insert r had) (level1 t.geometry) (chunks_of after.own2)
  welcome-fits2 = at-fits2 t l r _ _ lowest-at

  pub welcome-fits3 : Fits (insert r had) (level2 t.geometry (chunks_of after.own2)) (chunks_of after.own3)
  welcome-fits3 = at-fits3 t l r _ _ lowest-at

  pub welcome-holds : TableHolds t l (insert r had) (state_of t (insert r had)) (lent_of t l (insert r had) after)
  welcome-holds = at-holds t l r _ _ lowest-at

-- a withdrawal that is accepted
module _ (t : Table) (l : Lent) (a len : ℕ) (w : Withdrawable t l a len) where
  abbrev left : List Route
  left = remove (key_of a len) (standing t l)

  abbrev then : Owners
  then = owners_kept t.geometry left (owners_of l)

  was : Rendered t l
  was = sound-rendered t l w.sound

  pub less : (p i : ℕ) → long left p i ≡ true → long (standing t l) p i ≡ true
  less p i e = remove-any (within p i) (key_of a len) (standing t l) e

  -- other cells are as they were
  still : (p i : ℕ) → i ≢ slot p a → long left p i ≡ long (standing t l) p i
  still p i h = sym (remove-long a len (standing t l) w.prefix.len_ok (standing-good t l w.sound) p i (λ _ e. h (sym e)))

  serves1 : LiveFor (level1 t.geometry) a
  serves1 = let v = w.sound.sized.valid in top-served t.geometry.p1 a (omega arith) w.prefix.addr_ok

  pub losing1 : Losing (standing t l) left a (level1 t.geometry) l.own2
  losing1 = record { fits = was.fits2; apart = top_apart t.geometry.p1; others = still t.geometry.p1; served = λ e. serves1 }

  pub losing2 : Losing (standing t l) left a (level2 t.geometry (chunks_of l.own2)) l.own3
  losing2 =
      let v = w.sound.sized.valid in
      record {
        fits = was.fits3;
        apart = below_apart (standing t l) (level1 t.geometry) (chunks_of l.own2) t.geometry.p2 was.fits2 (top_apart t.geometry.p1);
        others = still t.geometry.p2;
        served = λ e.
            let above = long-down (standing t l) t.geometry.p1 t.geometry.p2 _ (omega arith) (omega arith) e in
            let cell = slot-down t.geometry.p1 t.geometry.p2 a (omega arith) (omega arith) in
            below-served (standing t l) (level1 t.geometry) (chunks_of l.own2) was.fits2 t.geometry.p2 a (omega arith) (omega arith)
            serves1 (rw cell above);
      }

  pub farewell-fits2 : Fits left (level1 t.geometry) (chunks_of then.own2)
  farewell-fits2 =
      fits_kept (standing t l) left less (level1 t.geometry) (chunks_of l.own2) (chunks_of then.own2) was.fits2
      (keep-closed left (level1 t.geometry) l.own2)

  pub farewell-fits3 : Fits left (level2 t.geometry (chunks_of then.own2)) (chunks_of then.own3)
  farewell-fits3 =
      let v = w.sound.sized.valid in
      below-kept (standing t l) left less (level1 t.geometry) (chunks_of l.own2) (chunks_of then.own2) t.geometry.p2 (omega arith) (omega arith)
      (keep-closed left (level1 t.geometry) l.own2)
      (chunks_of l.own3) (chunks_of then.own3) was.fits3 (keep-closed left (level2 t.geometry (chunks_of l.own2)) l.own3)

  fewer : length left ≤ room_of l
  fewer = omega (arith, remove-length (key_of a len) (standing t l), length-routes l.list t.count, w.sound.listed.records.room)

  pub farewell-holds : TableHolds t l left (state_of t left) (lent_of t l left then)
  farewell-holds = render-holds t l left then (record {
    sized = w.sound.sized;
    good = remove-good (key_of a len) (standing t l) (standing-good t l w.sound);
    roomy = fewer;
    len2 = length-keep _ _ l.own2;
    len3 = length-keep _ _ l.own3;
    fits2 = farewell-fits2;
    fits3 = farewell-fits3;
  })
