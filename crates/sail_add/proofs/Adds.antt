-- A route added step by step, in pools that others may use too: what each step asks, and what they leave. The laws of a change hold of the table
-- alone; the real arrays agree with it at the places that are then its own, for what it opens is blank. So they are stale alike, are painted alike,
-- and count alike; and at all other places they stay.
use mathlib.Core.Path.{◌≡◌, refl, sym, ◌∙◌, ap, subst}
use mathlib.Core.Bool.{true, false, not}
use mathlib.Core.List.{List}
use Prim.Native.Nat.{ℕ, ◌-◌, ◌*◌, ◌/◌, ◌^◌, ◌≤◌, ◌<◌}
use native.Mathlib.Omega.{arith}
use lib.ListN.{get_or, length}
use borrow.Author.Tests.{ltb-true, lt-ltb, eq-eqb, not-true, not-false}
use Rattle.bits.specs.Slot.{slot}
use Rattle.routes.specs.Route.{key, Good}
use Rattle.routes.specs.Record.{routes_of}
use Rattle.standing.specs.Standing.{stands, insert}
use Rattle.routes.specs.declared.Route.{Route}
use Rattle.routes.proofs.Rows.{length-routes}
use Rattle.standing.proofs.Changed.{insert-adds}
use Rattle.standing.proofs.Standing.{insert-long}
use Rattle.counts.specs.Counts.{OneMore}
use Rattle.counts.proofs.Changed.{many-insert, many-replace}
use Rattle.chain.specs.List.{ChainedFront}
use Rattle.lists.specs.Edit.{Insertable, inserted, count_with, ListHolds}
use Rattle.lists.proofs.EditHolds.{insert-count, insert-holds}
use Rattle.sail.specs.Geometry.{bits2, bits3, Valid}
use Rattle.sail.specs.Lent.{Lent, lent, cells}
use Rattle.sail.specs.Sound.{standing}
use Rattle.sail.specs.declared.geometry.Geometry.{Geometry}
use Rattle.sail.specs.declared.table.Table.{Table}
use Rattle.sail.proofs.Sounds.{standing-good}
use Rattle.sail_theory.specs.Render.{shown, pool, longs}
use Rattle.sail_theory.specs.Calls.{open_at}
use Rattle.sail_theory.specs.Shared.{own_part, alone, touched, mixed}
use Rattle.sail.specs.Level.{Level, Chunks, live_in, entry, chunks_of, no_chunks, level1, level2, level3}
use Rattle.sail_theory.proofs.calls.ChangeHolds.{AnnounceableAt, with_at, at-fits2}
use Rattle.sail_theory.proofs.owners.OpenAt.{OpenReady, length-open, open-keeps}
use Rattle.sail_theory.proofs.places.Alone.{length-own, own_at, touched-live, comes-part, laid-mixed}
use Rattle.sail_theory.proofs.places.Pools.{length-pool, pool-shows, laid-rendered}
use Rattle.sail_theory.proofs.places.Rendered.{top-clear}
use Rattle.sail_paint.specs.Stale.{Repainted}
use Rattle.sail_paint.specs.Pending.{Pending}
use Rattle.sail_chunks.specs.ToOpen.{Openable}
use Rattle.sail_chunks.proofs.AnnounceUnderway.{at-openable, at-underway}
use Rattle.sail_chunks.proofs.Underway.{underway-stale}
use Rattle.sail_chunks.proofs.SharedCells.{Agree, own-agree, stale-agree, mixed-is}
use Rattle.sail_counts.specs.Counted.{Counts}
use Rattle.sail_counts.proofs.Tallies.{Guided, up-tickable, up-counts, open-counts, as-counts, counts-are}
use Rattle.sail_counts.proofs.SharedCounts.{own-guided, own-tickable, own-moved, moved_other}
use Rattle.sail_add.specs.Added.{ToAddIn, MeetsAddIn}
use Rattle.sail_add.specs.PutIn.{PutInReady}
use Rattle.sail_add.specs.Booked.{Bookable, Booked, more, same}
use Rattle.sail_judge.specs.declared.announce.AnnounceVerdict.{AnnounceVerdict}

-- a place of these owners is theirs still when a chunk is opened
opened-still : (rs : List Route) (r : Route) (v : Level) (own : List ℕ) (c d : ℕ) → OpenReady rs r v own c
    → (q : ℕ) → live_in (entry own) d q ≡ true → live_in (entry (open_at v own c r)) d q ≡ true
opened-still rs r v own c d w q e =
    let j : ℕ = q / 2 ^ d in
    let h = ltb-true 0 (get_or own j 0) e in
    lt-ltb 0 (get_or (open_at v own c r) j 0) (omega (arith, open-keeps rs r v own c w j (get_or own j 0 - 1) (omega arith)))

-- ---- what is known before the list changes

module _ {t : Table} {l : Lent} {r : Route} {f : AnnounceVerdict} {c2 c3 : ℕ} (ready : ToAddIn t l r f c2 c3) where
  abbrev g : Geometry
  g = t.geometry

  abbrev rs : List Route
  rs = standing t l

  -- the table alone
  abbrev own : Lent
  own = alone g l

  w : AnnounceableAt t own r c2 c3
  w = with_at t own r c2 c3 ready.may

  abbrev own2' : List ℕ
  own2' = open_at (level1 g) l.own2 c2 r

  abbrev own3' : List ℕ
  own3' = open_at (level2 g (chunks_of own2')) l.own3 c3 r

  insertable : Insertable l.list t.count r
  insertable = record {
    listed = w.sound.listed;
    fine = w.fine;
    room = λ e. omega (arith, w.roomy, insert-adds r rs e, length-routes l.list t.count);
  }

  pub add-ready : {ws par : List ℕ} → ChainedFront l.list t.count ws par → PutInReady l.list t.count f.at f.stands r ws par
  add-ready c = record {
    fits = record { fits = insertable; place = ready.found.at; stood = ready.found.stood };
    few = omega (arith, w.sound.sized.room);
    chain = c;
  }

  pub add-openable : Openable g r f.opens c2 c3 l.own2 l.own3
  add-openable = at-openable t own r c2 c3 w ready.few2 f.opens ready.found.opens

  add-few : t.count ≤ 4096
  add-few = w.sound.listed.records.few

  -- s is the list with the route put in, and m the number of routes in it
  module _ {s : List ℕ} (list-is : s ≡ inserted l.list t.count r) {m : ℕ} (k : m ≡ count_with f.stands t.count) where
    count-is : m ≡ length (insert r rs)
    count-is = k ∙ rw ready.found.stood (sym (rw length-routes at (insert-count r rs (standing-good t own w.sound))))

    holds : ListHolds s m (insert r rs)
    holds =
        let few : length l.list / 8 ≤ 4096 = omega (arith, w.sound.sized.room) in
        let c : m ≡ count_with (stands (key r) rs) t.count = rw ready.found.stood at k in
        rw (list-is, c) (insert-holds l.list t.count few r insertable)

  valid : Valid g
  valid = w.sound.sized.valid

  good : Good rs
  good = standing-good t own w.sound

  -- ---- the pools, by the owners that are then there

  abbrev v2 : Level
  v2 = level2 g (chunks_of own2')

  abbrev v3 : Level
  v3 = level3 g (chunks_of own2') (chunks_of own3')

  still2 : (q : ℕ) → live_in (entry l.own2) (bits2 g) q ≡ true → live_in (entry own2') (bits2 g) q ≡ true
  still2 = opened-still rs r (level1 g) l.own2 c2 (bits2 g) w.first

  still3 : (q : ℕ) → live_in (entry l.own3) (bits3 g) q ≡ true → live_in (entry own3') (bits3 g) q ≡ true
  still3 = opened-still rs r (level2 g (chunks_of own2')) l.own3 c3 (bits3 g) w.second

  as-many2 : length l.own2 * 2 ^ bits2 g ≡ length own2' * 2 ^ bits2 g
  as-many2 = ap (λ (x : ℕ). x * 2 ^ bits2 g) (sym (length-open (level1 g) l.own2 c2 r))

  size2 : length l.second ≡ v2.places
  size2 = sym (length-own l.own2 (bits2 g) l.second) ∙ w.sound.sized.cells2 ∙ as-many2

  size3 : length l.third ≡ v3.places
  size3 =
      sym (length-own l.own3 (bits3 g) l.third) ∙ w.sound.sized.cells3
      ∙ ap (λ (x : ℕ). x * 2 ^ bits3 g) (sym (length-open (level2 g (chunks_of own2')) l.own3 c3 r))

  many2 : length l.long2 ≡ length own2' * 2 ^ bits2 g
  many2 = sym (length-own l.own2 (bits2 g) l.long2) ∙ w.sound.sized.counts2 ∙ w.sound.sized.cells2 ∙ as-many2

  agree2 : Agree v2 own.second l.second
  agree2 = subst (λ (xs : List ℕ). Agree v2 xs l.second) (comes-part l.own2 own2' (bits2 g) l.second still2 ready.blank2)
      (own-agree (level1 g) own2' g.p2 l.second size2)

  agree3 : Agree v3 own.third l.third
  agree3 = subst (λ (xs : List ℕ). Agree v3 xs l.third) (comes-part l.own3 own3' (bits3 g) l.third still3 ready.blank3)
      (own-agree (level2 g (chunks_of own2')) own3' 32 l.third size3)

  -- the table's own counts
  abbrev mine : List ℕ → List ℕ
  mine xs = own_part own2' (bits2 g) xs

  before : Counts rs g own2' l.long1 (mine l.long2)
  before = subst (λ (xs : List ℕ). Counts rs g own2' l.long1 xs) (sym (comes-part l.own2 own2' (bits2 g) l.long2 still2 ready.uncounted))
      (open-counts g valid rs l.own2 l.long1 own.long2 (record { first = w.sound.counted1; second = w.sound.counted2 }) r c2 w.first)

  new : not f.stands ≡ true → OneMore r.addr r.len rs (insert r rs)
  new e = many-insert r rs (sym ready.found.stood ∙ not-true f.stands e)

  -- ---- the first cells are painted: they lead to the place that serves the route
  module _ {first : List ℕ} (is : first ≡ pool (insert r rs) (level1 g) (chunks_of own2')) where
    guided : Guided g (insert r rs) r.addr r.len first own2' l.long1 l.long2
    guided = record {
      valid = valid;
      cells1 = ap length is ∙ length-pool (insert r rs) (level1 g) (chunks_of own2');
      shows1 = rw is (pool-shows (insert r rs) (level1 g) (chunks_of own2') (at-fits2 t own r c2 c3 w));
      small = w.fine.prefix.addr_ok;
      held = λ k.
          insert-long r rs w.fine good g.p1 (slot g.p1 r.addr)
          ∙ rw (lt-ltb g.p1 r.len k, eq-eqb (slot g.p1 r.addr) (slot g.p1 r.addr) refl);
      counts1 = w.sound.sized.counts1;
      counts2 = many2;
    }

    alike : Guided g (insert r rs) r.addr r.len first own2' l.long1 (mine l.long2)
    alike = own-guided g _ _ _ first own2' l.long1 l.long2 guided

    bookable : Bookable (not f.stands) g r first l.long1 l.long2
    bookable = record {
      ticks = λ e.
          own-tickable g _ _ _ first own2' l.long1 l.long2 guided true
          (up-tickable g _ _ _ first own2' l.long1 (mine l.long2) alike rs (insert r rs) (new e)
          (omega (arith, length-routes l.list t.count, add-few)) before);
    }

    -- the table's own counts then, and those of others
    counts : {long1 long2 : List ℕ} → Booked (not f.stands) g r first l.long1 l.long2 long1 long2 → Counts (insert r rs) g own2' long1 (mine long2)
    counts (more e left moved) =
        up-counts g _ _ _ first own2' l.long1 (mine l.long2) alike rs (insert r rs) (new e) before _ _ left
        (own-moved g _ _ _ first own2' l.long1 l.long2 guided true moved)
    counts (same e a b) =
        rw (a, b)
        (as-counts g valid rs own2' l.long1 (mine l.long2) before (insert r rs)
        (many-replace r rs w.fine good (sym ready.found.stood ∙ not-false f.stands e)))

    others : {long1 long2 : List ℕ} → Booked (not f.stands) g r first l.long1 l.long2 long1 long2
        → (q : ℕ) → live_in (entry own2') (bits2 g) q ≡ false → get_or long2 q 0 ≡ get_or l.long2 q 0
    others (more e left moved) q d = moved_other g _ _ _ first own2' l.long1 l.long2 guided true moved q d
    others (same e a b) q d = ap (λ (x : List ℕ). get_or x q 0) b

    module _ {long1 long2 : List ℕ} (booked : Booked (not f.stands) g r first l.long1 l.long2 long1 long2)
        (e1 : length long1 ≡ length l.long1) (e2 : length long2 ≡ length l.long2) where
      are : (long1 ≡ longs (insert r rs) (level1 g)) × (mine long2 ≡ longs (insert r rs) v2)
      are = counts-are g valid (insert r rs) own2' long1 (mine long2) (counts booked) (e1 ∙ w.sound.sized.counts1)
          (length-own own2' (bits2 g) long2 ∙ e2 ∙ many2)

      counts-mixed : long2 ≡ mixed l.own2 own2' (bits2 g) l.long2 (longs (insert r rs) v2)
      counts-mixed =
          mixed-is l.own2 own2' (bits2 g) l.long2 (longs (insert r rs) v2) long2 e2
          (λ q h e.
          let live = sym (touched-live l.own2 own2' (bits2 g) l.long2 still2 q) ∙ e in
          sym (own_at own2' (bits2 g) long2 q (rw e2 h) ∙ rw live) ∙ ap (λ (x : List ℕ). get_or x q 0) are.1)
          (λ q h e. others booked q (sym (touched-live l.own2 own2' (bits2 g) l.long2 still2 q) ∙ e))

-- ---- what is known once the record is in the list

-- s is the list with the route put in, m the number of routes in it, own2 and own3 the owners with the chunks opened
pub record PutIn : Type 0 where
  pub t : Table
  pub l : Lent
  pub r : Route
  pub f : AnnounceVerdict
  pub c2 : ℕ
  pub c3 : ℕ
  pub ready : ToAddIn t l r f c2 c3
  pub s : List ℕ
  pub put : s ≡ inserted l.list t.count r
  pub m : ℕ
  pub counted : m ≡ count_with f.stands t.count
  pub own2 : List ℕ
  pub own3 : List ℕ
  pub open2 : own2 ≡ own2' ready
  pub open3 : own3 ≡ own3' ready

abbrev pub put_in : {t : Table} {l : Lent} {r : Route} {f : AnnounceVerdict} {c2 c3 : ℕ} (ready : ToAddIn t l r f c2 c3)
    → {s : List ℕ} → s ≡ inserted l.list t.count r → {m : ℕ} → m ≡ count_with f.stands t.count
    → {own2 own3 : List ℕ} → (own2 ≡ own2' ready) × (own3 ≡ own3' ready) → PutIn
put_in {t} {l} {r} {f} {c2} {c3} w {s} e {m} k {own2} {own3} o = record {
  t = t;
  l = l;
  r = r;
  f = f;
  c2 = c2;
  c3 = c3;
  ready = w;
  s = s;
  put = e;
  m = m;
  counted = k;
  own2 = own2;
  own3 = own3;
  open2 = o.0;
  open3 = o.1;
}

module _ (p : PutIn) where
  abbrev next : List Route
  next = insert p.r (standing p.t p.l)

  held : ListHolds p.s p.m next
  held = holds p.ready p.put p.counted

  pub add-pending : {x : ℕ} → x ≡ p.r.len
      → Pending p.t.geometry p.m p.r.addr x p.s (cells p.l.first p.l.second p.l.third p.own2 p.own3)
  add-pending q = rw (q, p.open2, p.open3) (record {
    listed = held.listed;
    stale = λ ws par ready z.
        stale-agree _ ws par _ _ p.l.first (own p.ready).second (own p.ready).third p.l.second p.l.third
        (own2' p.ready) (own3' p.ready) (agree2 p.ready) (agree3 p.ready)
        (underway-stale _ _ _ _ _ _ (at-underway _ _ _ _ _ (w p.ready)) ws par ready (z ∙ held.routes));
  })

  -- the cells are painted
  module _ {first second third : List ℕ} (h : Repainted p.t.geometry (routes_of p.s p.m)
      (cells p.l.first p.l.second p.l.third p.own2 p.own3) first second third) where
    painted : Repainted p.t.geometry next (cells p.l.first p.l.second p.l.third (own2' p.ready) (own3' p.ready)) first second third
    painted = rw (held.routes, p.open2, p.open3) at h

    first-is : first ≡ pool next (level1 p.t.geometry) (chunks_of (own2' p.ready))
    first-is =
        painted.is_first
        ∙ laid-rendered next (level1 p.t.geometry) (chunks_of (own2' p.ready)) p.l.first (w p.ready).sound.sized.cells1
        (top-clear p.t.geometry.p1 (entry p.l.first))

    second_is : second ≡ mixed p.l.own2 (own2' p.ready) (bits2 p.t.geometry) p.l.second (pool next (v2 p.ready) (chunks_of (own3' p.ready)))
    second_is =
        painted.is_second
        ∙ laid-mixed p.l.own2 (own2' p.ready) (bits2 p.t.geometry) p.l.second (still2 p.ready)
        (shown next (v2 p.ready) (chunks_of (own3' p.ready))) _ (size2 p.ready)

    third-is : third ≡ mixed p.l.own3 (own3' p.ready) (bits3 p.t.geometry) p.l.third (pool next (v3 p.ready) no_chunks)
    third-is =
        painted.is_third
        ∙ laid-mixed p.l.own3 (own3' p.ready) (bits3 p.t.geometry) p.l.third (still3 p.ready) (shown next (v3 p.ready) no_chunks) _
        (size3 p.ready)

    pub add-bookable : Bookable (not p.f.stands) p.t.geometry p.r first p.l.long1 p.l.long2
    add-bookable = bookable p.ready first-is

    pub add_done : {long1 long2 : List ℕ} → Booked (not p.f.stands) p.t.geometry p.r first p.l.long1 p.l.long2 long1 long2
        → length long1 ≡ length p.l.long1 → length long2 ≡ length p.l.long2
        → MeetsAddIn p.t p.l p.r p.c2 p.c3 (record { geometry = p.t.geometry; count = p.m })
        (lent p.s first second third p.own2 p.own3 long1 long2)
    add_done booked e1 e2 = (
      ap (λ (n : ℕ). record { geometry = p.t.geometry; count = n }) (count-is p.ready p.put p.counted),
      rw (
        p.put,
        first-is,
        second_is,
        third-is,
        p.open2,
        p.open3,
        (are p.ready first-is booked e1 e2).0,
        counts-mixed p.ready first-is booked e1 e2,
      ),
    )
