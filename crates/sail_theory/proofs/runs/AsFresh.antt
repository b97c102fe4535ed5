-- After any run the table is as good as one that is freshly loaded with its routes: that load is accepted, its list is the same to the byte,
-- every address gets the same hop and count of cells, as many chunks are in use, and the counts at first cells and on every address's walk are
-- equal.
use mathlib.Core.Path.{◌≡◌, sym, ◌∙◌, ap, ap₂, subst}
use mathlib.Core.List.{List, [], ◌∷◌}
use mathlib.Core.Bool.{true, cond}
use Prim.Native.Nat.{ℕ, ◌/◌, ◌^◌, ◌≤◌, ◌<◌}
use native.Mathlib.Omega.{arith}
use lib.ListN.{length}
use Rattle.routes.specs.Said.{accepts}
use Rattle.routes.specs.Route.{Good}
use Rattle.bits.specs.Slot.{slot}
use Rattle.standing.specs.Cells.{long, need, best}
use Rattle.counts.specs.Counts.{how_many}
use Rattle.routes.specs.Record.{written}
use Rattle.routes.specs.declared.Route.{Route}
use Rattle.routes.proofs.Rows.{length-routes, length-written, routes-written, written_listed}
use Rattle.sail.specs.Lent.{Lent}
use Rattle.sail.specs.Level.{chunks_of, level1}
use Rattle.sail.specs.Sizes.{Sized}
use Rattle.sail.specs.Sound.{Sound, standing, used, cells_read}
use Rattle.standing.specs.Served.{hop_said}
use Rattle.sail.specs.Walk.{lookup_said, walk_counts}
use Rattle.sail.specs.declared.geometry.Geometry.{Geometry}
use Rattle.sail.specs.declared.table.Table.{Table}
use Rattle.sail.proofs.Sounds.{standing-good, sail-serves, chunks-need, counts-serve}
use Rattle.sail_theory.specs.Render.{room_of, longs}
use Rattle.sail_theory.specs.Calls.{input_routes, Out, loaded}
use Rattle.sail_theory.specs.Facts.{SameSize, TableHolds, Loadable}
use Rattle.sail_theory.specs.CallRuns.{Call, after, Carries, AsFresh}
use Rattle.sail_theory.proofs.owners.Chunks.{used_le}
use Rattle.sail_theory.specs.Cases.{Readable}
use Rattle.sail_theory.proofs.places.Rendered.{sound-rendered}
use Rattle.sail_theory.proofs.calls.SameSizes.{size-sym, size-trans, sized_same}
use Rattle.sail_theory.proofs.calls.Load.{load_is, loadable-holds}
use Rattle.sail_theory.proofs.runs.AfterRun.{run_is}

-- Two sound tables of one geometry and one list of routes look the same from outside: what a lookup says, the chunks in use and the counts are
-- functions of the geometry and the routes.
pub same-lookups : (t : Table) (l : Lent) (u : Table) (v : Lent) → Sound t l → Sound u v → u.geometry ≡ t.geometry → standing u v ≡ standing t l
    → (a : ℕ) → a < 2 ^ 32 → lookup_said u v a ≡ lookup_said t l a
same-lookups t l u v s k g e a h =
    sail-serves u v k a h ∙ ap₂ (λ (x : Geometry) (rs : List Route). hop_said (cells_read x rs a) (best rs 32 a)) g e ∙ sym (sail-serves t l s a h)

pub same-used : (t : Table) (l : Lent) (u : Table) (v : Lent) → Sound t l → Sound u v → u.geometry ≡ t.geometry → standing u v ≡ standing t l
    → (used v.own2 ≡ used l.own2) × (used v.own3 ≡ used l.own3)
same-used t l u v s k g e =
    let m = chunks-need u v k in
    let n = chunks-need t l s in (
      m.0 ∙ ap₂ (λ (x : Geometry) (rs : List Route). need rs x.p1) g e ∙ sym n.0,
      m.1 ∙ ap₂ (λ (x : Geometry) (rs : List Route). need rs x.p2) g e ∙ sym n.1,
    )

pub same-longs : (t : Table) (l : Lent) (u : Table) (v : Lent) → Sound t l → Sound u v → u.geometry ≡ t.geometry → standing u v ≡ standing t l
    → v.long1 ≡ l.long1
same-longs t l u v s k g e =
    (sound-rendered u v k).is_long1 ∙ ap₂ (λ (x : Geometry) (rs : List Route). longs rs (level1 x)) g e ∙ sym (sound-rendered t l s).is_long1

pub same_walks : (t : Table) (l : Lent) (u : Table) (v : Lent) → Sound t l → Sound u v → u.geometry ≡ t.geometry → standing u v ≡ standing t l
    → (a : ℕ) → a < 2 ^ 32 → walk_counts u.geometry v a ≡ walk_counts t.geometry l a
same_walks t l u v s k g e a h =
    counts-serve u v k a h
    ∙ ap₂ (λ (x : Geometry) (rs : List Route).
    how_many rs x.p1 (slot x.p1 a) ∷ cond (long rs x.p1 (slot x.p1 a)) (how_many rs x.p2 (slot x.p2 a) ∷ []) []) g e
    ∙ sym (counts-serve t l s a h)

-- a list of routes has a record input
pub carried : (rs : List Route) → Good rs → length rs ≤ 4096 → Carries (written rs (length rs)) rs
carried rs g h = record {
  whole = length-written rs (length rs);
  records = (written_listed rs (length rs) g (omega arith) h).records;
  routes = routes-written rs (length rs) g (omega arith);
}

-- A sound table, and any other one lent, of the same geometry and sizes: a load of the first's routes into the second.
module _ (t : Table) (l : Lent) (s : Sound t l) (u : Table) (v : Lent) (geo : u.geometry ≡ t.geometry) (size : SameSize l v)
    (input : List ℕ) (c : Carries input (standing t l)) where
  abbrev rs : List Route
  rs = standing t l

  many : length input / 8 ≡ length rs
  many = omega (arith, c.whole)

  routes-are : input_routes input ≡ rs
  routes-are = rw many c.routes

  sized : Sized u.geometry v
  sized = rw geo (sized_same t.geometry l v s.sized size)

  readable : Readable u v input
  readable = record { sized = sized; whole = rw many c.whole; records = rw many c.records }

  loadable : Loadable u v (input_routes input)
  loadable =
      let n = chunks-need t l s in
      record {
        sized = sized;
        good = rw routes-are (standing-good t l s);
        roomy = rw (routes-are, size.list) (omega (arith, length-routes l.list t.count, s.listed.records.room));
        enough2 = rw (routes-are, geo) (omega (arith, n.0, used_le (chunks_of l.own2), size.chunks2));
        enough3 = rw (routes-are, geo) (omega (arith, n.1, used_le (chunks_of l.own3), size.chunks3));
      }

  fresh-accepted : accepts (loaded u v input).said ≡ true
  fresh-accepted = rw (load_is u v input readable loadable)

  fresh_holds : TableHolds u v (input_routes input) (loaded u v input).table (loaded u v input).lent
  fresh_holds =
      subst (λ (o : Out). TableHolds u v (input_routes input) o.table o.lent) (sym (load_is u v input readable loadable))
      (loadable-holds u v (input_routes input) loadable)

  -- it is sound, of the same geometry, and holds the same routes
  abbrev u' : Table
  u' = (loaded u v input).table

  abbrev v' : Lent
  v' = (loaded u v input).lent

  geo' : u'.geometry ≡ t.geometry
  geo' = fresh_holds.geometry ∙ geo

  routes' : standing u' v' ≡ rs
  routes' = fresh_holds.routes ∙ routes-are

  fresh-list : l.list ≡ written rs (room_of l) → l.list ≡ v'.list
  fresh-list b = b ∙ sym (fresh_holds.list ∙ ap₂ written routes-are (ap (λ (n : ℕ). n / 8) size.list))

  fresh-lookups : (a : ℕ) → a < 2 ^ 32 → lookup_said u' v' a ≡ lookup_said t l a
  fresh-lookups = same-lookups t l u' v' s fresh_holds.sound geo' routes'

  fresh-used : (used v'.own2 ≡ used l.own2) × (used v'.own3 ≡ used l.own3)
  fresh-used = same-used t l u' v' s fresh_holds.sound geo' routes'

  fresh-longs : v'.long1 ≡ l.long1
  fresh-longs = same-longs t l u' v' s fresh_holds.sound geo' routes'

  fresh_walks : (a : ℕ) → a < 2 ^ 32 → walk_counts u'.geometry v' a ≡ walk_counts t.geometry l a
  fresh_walks = same_walks t l u' v' s fresh_holds.sound geo' routes'

  -- so the first is as good as that load, where its list has the bytes of its routes alone
  as-loaded : l.list ≡ written rs (room_of l) → AsFresh t l (loaded u v input)
  as-loaded b = record {
    accepted_too = fresh-accepted;
    lists = fresh-list b;
    lookups = λ a h. sym (fresh-lookups a h);
    chunks2 = sym fresh-used.0;
    chunks3 = sym fresh-used.1;
    longs1 = sym fresh-longs;
    longs2 = λ a h. sym (fresh_walks a h);
  }

-- Demand 3: after a run from a fresh table of t's geometry over arrays of l's sizes, a load of the standing routes into any (u, v) of that
-- geometry and these sizes is accepted, has the same list to the byte, looks the same, uses as many chunks, and counts the same at first cells and
-- on every address's walk. Both tables are sound and hold the same routes, and all of this is a function of the geometry and the routes.
pub run-as-fresh : (t : Table) (l : Lent) → Sized t.geometry l → (cs : List Call) (u : Table) (v : Lent) → u.geometry ≡ t.geometry → SameSize l v
    → (input : List ℕ) → Carries input (standing (after t l cs).table (after t l cs).lent)
    → AsFresh (after t l cs).table (after t l cs).lent (loaded u v input)
run-as-fresh t l z cs u v geo size input c =
    let w = run_is t l z cs in
    let same : u.geometry ≡ (after t l cs).table.geometry = geo ∙ sym w.geometry in
    let sizes : SameSize (after t l cs).lent v = size-trans (after t l cs).lent l v (size-sym l (after t l cs).lent w.size) size in
    as-loaded _ _ w.sound u v same sizes input c (rw (ap (λ (n : ℕ). n / 8) w.size.list) w.bytes_so)

-- there is such an input: the bytes of the standing routes
pub run-carried : (t : Table) (l : Lent) → Sized t.geometry l → (cs : List Call)
    → let rs : List Route = standing (after t l cs).table (after t l cs).lent in Carries (written rs (length rs)) rs
run-carried t l z cs =
    let s = (run_is t l z cs).sound in
    carried _ (standing-good _ _ s) (omega (arith, s.listed.records.few, length-routes (after t l cs).lent.list (after t l cs).table.count))
