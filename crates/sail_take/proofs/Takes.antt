-- A route taken out step by step: what each step asks, and what they leave. The laws of a sound table are applied to the table alone. The code reads and
-- writes the pools, which agree with it at the table's own places, and nothing else there.
use mathlib.Core.Path.{◌≡◌, refl, sym, ◌∙◌, ap}
use mathlib.Core.Logic.{◌⊎◌, inl, inr}
use mathlib.Core.Bool.{Bool, true, false, cond}
use mathlib.Core.List.{List}
use Prim.Native.Nat.{ℕ, suc, ◌+◌, ◌-◌, ◌*◌, ◌/◌, ◌^◌, ◌≤◌}
use native.Mathlib.Omega.{arith}
use lib.Dec.{eqb}
use lib.ListN.{get_or, length, set}
use borrow.Author.Tests.{lt-ltb}
use Rattle.bits.proofs.Bools.{decided, or_split, or-none}
use Rattle.routes.specs.Route.{key, key_of}
use Rattle.routes.specs.Record.{record_at, routes_of}
use Rattle.routes.specs.declared.Route.{Route}
use Rattle.chain.specs.List.{ChainedFront}
use Rattle.lists.specs.Edit.{removed, ListHolds}
use Rattle.lists.proofs.EditHolds.{remove-holds}
use Rattle.buffers.specs.Fill.{filled}
use Rattle.counts.specs.Counts.{OneMore}
use Rattle.counts.proofs.Changed.{many-remove}
use Rattle.sail.specs.Geometry.{bits2, bits3, Valid}
use Rattle.sail.specs.Lent.{Lent, lent, cells}
use Rattle.sail.specs.Sound.{standing}
use Rattle.sail.specs.declared.geometry.Geometry.{Geometry}
use Rattle.sail.specs.declared.table.Table.{Table}
use Rattle.sail.proofs.Sounds.{standing-good}
use Rattle.sail_theory.specs.Render.{find, longs, pool, laid_over}
use Rattle.sail_theory.specs.Shared as shared
use Rattle.sail_theory.proofs.places.Alone.{length-own, own_at}
use Rattle.sail_theory.proofs.places.Places.{live-owner}
use Rattle.sail_theory.proofs.places.Pools.{laid-rendered}
use Rattle.sail_theory.proofs.places.Rendered.{top-clear}
use Rattle.sail_theory.specs.Calls.{keep}
use Rattle.sail.specs.Level.{Level, Chunks, live_in, entry, chunks_of, no_chunks, below, level1, level2}
use Rattle.sail_theory.specs.Facts.{Withdrawable}
use Rattle.sail_theory.proofs.owners.GrantKeep.{length-keep, kept-was, Losing}
use Rattle.sail_theory.proofs.calls.ChangeHolds.{losing1, losing2}
use Rattle.sail_theory.proofs.calls.Outcomes.{count-removed}
use Rattle.sail_paint.specs.Stale.{Repainted}
use Rattle.sail_chunks.specs.Chunks.{alone, without_owner, blanked, Closing}
use Rattle.sail_chunks.proofs.SharedCells.{Agree, own-agree, serving-agree, stale-agree, mixed-is}
use Rattle.sail_chunks.proofs.SharedClosing.{closed-agree, closed-mixed}
use Rattle.sail_paint.specs.Pending.{Pending}
use Rattle.sail_chunks.specs.Trail.{CellTells, Serving, Trailed}
use Rattle.sail_chunks.proofs.ChunkOwners.{alone-longer}
use Rattle.sail_chunks.proofs.ToOpen.{told-one, told-chunk}
use Rattle.sail_chunks.proofs.WithdrawUnderway.{was-long, keep-closes, one, in_use, closing, farewell-underway}
use Rattle.sail_chunks.proofs.Trails.{serving-of}
use Rattle.sail_chunks.proofs.Underway.{underway-stale}
use Rattle.sail_counts.specs.Counted.{Counts}
use Rattle.sail_counts.specs.Tick.{Tickable, CountsMoved}
use Rattle.sail_counts.specs.declared.tick.Left.{Left}
use Rattle.sail_counts.proofs.SharedCounts.{own-guided, own-tickable, own-moved, moved_other}
use Rattle.sail_counts.proofs.Tallies.{Guided, down-tickable, down-counts, closes-first, closes-second, keep-counts, counts-are}
use Rattle.sail_take.specs.Taken.{ToTakeIn, TakenIn, routes_left}
use Rattle.sail_take.specs.TakenOut.{TakeOutReady}

-- which chunk is closed matters only where one is
module _ (b : Bool) (c c' : ℕ) (h : b ≡ true → c ≡ c') where
  same-closed : (own : List ℕ) → without_owner b c own ≡ without_owner b c' own
  unfolding without_owner
  same-closed own = go (decided b)
    where
      go : (b ≡ true) ⊎ (b ≡ false) → cond b (set own c 0) own ≡ cond b (set own c' 0) own
      go (inl e) = rw (h e)
      go (inr e) = rw e

  same-blanked : (d : ℕ) (cells : List ℕ) → blanked b c d cells ≡ blanked b c' d cells
  unfolding blanked
  same-blanked d cells = go (decided b)
    where
      go : (b ≡ true) ⊎ (b ≡ false)
          → cond b (filled cells (c * 2 ^ d) (c * 2 ^ d + 2 ^ d) 0) cells ≡ cond b (filled cells (c' * 2 ^ d) (c' * 2 ^ d + 2 ^ d) 0) cells
      go (inl e) = rw (h e)
      go (inr e) = rw e

  -- a chunk that may be closed
  same-closing : (own cells : List ℕ) (d : ℕ) → Closing b own cells c' d → Closing b own cells c d
  same-closing own cells d k = record { one = λ e. rw (h e) (k.one e); few = k.few; size = k.size; whole = k.whole }

-- ---- what is known before the list changes

module _ {t : Table} {l : Lent} {a len at : ℕ} (ready : ToTakeIn t l a len at) where
  abbrev g : Geometry
  g = t.geometry

  -- the table alone
  abbrev x : Lent
  x = shared.alone g l

  abbrev w : Withdrawable t x a len
  w = ready.may

  abbrev rs : List Route
  rs = standing t l

  abbrev left : List Route
  left = routes_left t l a len

  -- as many cells as the table alone has
  size2 : length l.second ≡ length l.own2 * 2 ^ bits2 g
  size2 = sym (length-own l.own2 (bits2 g) l.second) ∙ w.sound.sized.cells2

  size3 : length l.third ≡ length l.own3 * 2 ^ bits3 g
  size3 = sym (length-own l.own3 (bits3 g) l.third) ∙ w.sound.sized.cells3

  size_counts : length l.long2 ≡ length l.own2 * 2 ^ bits2 g
  size_counts = sym (length-own l.own2 (bits2 g) l.long2) ∙ w.sound.sized.counts2 ∙ w.sound.sized.cells2

  pub take-serving : Serving g rs l.first l.second l.own2 l.own3
  take-serving =
      serving-agree g rs l.first x.second l.second l.own2 l.own3 (own-agree (level1 g) l.own2 g.p2 l.second size2)
      (serving-of t x w.sound)

  count-is : t.count - 1 ≡ length left
  count-is = omega (arith, count-removed t x a len w)

  pub take-ready : {ws par : List ℕ} → ChainedFront l.list t.count ws par → TakeOutReady l.list t.count at ws par
  take-ready c = record {
    fits = record { listed = w.sound.listed; place = ready.place };
    few = omega (arith, w.sound.sized.room);
    chain = c;
  }

  -- the counts: the first cells lead to the place that serves the prefix
  valid : Valid g
  valid = w.sound.sized.valid

  guided : Guided g rs a len l.first l.own2 l.long1 l.long2
  guided = record {
    valid = valid;
    cells1 = w.sound.sized.cells1;
    shows1 = w.sound.serves.first;
    small = w.prefix.addr_ok;
    held = was-long t x a len w g.p1;
    counts1 = w.sound.sized.counts1;
    counts2 = size_counts;
  }

  guided-own : Guided g rs a len l.first l.own2 l.long1 x.long2
  guided-own = own-guided g rs a len l.first l.own2 l.long1 l.long2 guided

  goes : OneMore a len left rs
  goes = many-remove a len rs w.prefix.len_ok (standing-good t x w.sound) w.old

  before : Counts rs g l.own2 l.long1 x.long2
  before = record { first = w.sound.counted1; second = w.sound.counted2 }

  pub take-tickable : Tickable g a len l.first l.long1 l.long2 false
  take-tickable =
      own-tickable g rs a len l.first l.own2 l.long1 l.long2 guided false
      (down-tickable g rs a len l.first l.own2 l.long1 x.long2 guided-own left rs goes before)

  -- the first level, whose pool is the second, and the second one, whose pool is the third
  abbrev v1 : Level
  v1 = level1 g

  abbrev v2 : Level
  v2 = level2 g (chunks_of l.own2)

  abbrev own2' : List ℕ
  own2' = keep left v1 l.own2

  abbrev own3' : List ℕ
  own3' = keep left v2 l.own3

  small : bits3 g ≤ 10
  small = let v = valid in omega arith

  -- A level that the withdrawal may close a chunk at, and the pool of p bits below it: the cell y of the address names the chunk. Whether it is
  -- closed is told by the count that is left.
  module _ {v : Level} {own : List ℕ} (z : Losing rs left a v own) (cells : List ℕ) (p : ℕ) (size : length cells ≡ (below v (chunks_of own) p).places)
      {y : ℕ} (k : CellTells rs v own a y) {closes : Bool} (q : closes ≡ alone left v.bits a len) where
    names : closes ≡ true → y - 1 ≡ find own (suc (v.serving a))
    names h = told-chunk rs v own a y k (was-long t x a len w v.bits (alone-longer left v.bits a len (sym q ∙ h)))

    closable : length own ≤ 4096 → p - v.bits ≤ 10 → Closing closes own cells (y - 1) (p - v.bits)
    closable few small = same-closing _ _ _ names own cells (p - v.bits) (rw q (closing t x a len w v own z p cells size few small))

    own_is : {own' : List ℕ} → own' ≡ without_owner closes (y - 1) own → own' ≡ keep left v own
    own_is o = o ∙ same-closed _ _ _ names own ∙ rw q (sym (keep-closes t x a len w v own z p cells size))

    cells_are : {cells' : List ℕ} → cells' ≡ blanked closes (y - 1) (p - v.bits) cells
        → cells' ≡ blanked (alone left v.bits a len) (find own (suc (v.serving a))) (p - v.bits) cells
    cells_are c = c ∙ same-blanked _ _ _ names (p - v.bits) cells ∙ rw q

  -- That pool once the chunk is closed, where the level is then v': its cells agree with those of the table alone, and painted they are those of
  -- the new table, mixed in.
  module _ (v v' : Level) (own : List ℕ) (z : Losing rs left a v own) (cells : List ℕ) (p : ℕ) (size : length cells ≡ (below v (chunks_of own) p).places)
      (bits : v'.bits ≡ v.bits) where
    abbrev shut : List ℕ → List ℕ
    shut ys = blanked (alone left v.bits a len) (find own (suc (v.serving a))) (p - v'.bits) ys

    abbrev low : Level
    low = below v' (chunks_of (keep left v own)) p

    still-agree : Agree low (shut (shared.own_part own (p - v'.bits) cells)) (shut cells)
    still-agree = closed-agree _ own _ (one t x a len w v own z p cells size) (in_use t x a len w v own z p cells size) _
        (keep-closes t x a len w v own z p cells size) v' p cells (rw bits size)

    painted : (k : Chunks) → laid_over left low k (shut cells) ≡ shared.mixed own (keep left v own) (p - v'.bits) cells (pool left low k)
    painted k = closed-mixed _ own _ (one t x a len w v own z p cells size) (in_use t x a len w v own z p cells size) _
        (keep-closes t x a len w v own z p cells size) v' p cells (rw bits size) left k

  -- the prefix is counted no more; n is what is left at its places
  module _ {long1 long2 : List ℕ} {n : Left} (moved : CountsMoved g a len l.first l.long1 l.long2 false long1 long2 n) where
    moved-own : CountsMoved g a len l.first l.long1 x.long2 false long1 (shared.own_part l.own2 (bits2 g) long2) n
    moved-own = own-moved g rs a len l.first l.own2 l.long1 l.long2 guided false moved

    closes2 : eqb n.first 0 ≡ alone left g.p1 a len
    unfolding alone
    closes2 = closes-first g rs a len l.first l.own2 l.long1 x.long2 guided-own left rs goes before long1 _ n moved-own

    closes3 : eqb n.second 0 ≡ alone left g.p2 a len
    unfolding alone
    closes3 = closes-second g rs a len l.first l.own2 l.long1 x.long2 guided-own left rs goes before long1 _ n moved-own

    -- the counts are those of the owners that are left, and what is closed had none to count; what others count is as it was
    module _ (e1 : length long1 ≡ length l.long1) (e2 : length long2 ≡ length l.long2) where
      abbrev left2 : List ℕ
      left2 = longs left (level2 g (chunks_of own2'))

      counts-own : (long1 ≡ longs left v1) × (shared.own_part l.own2 (bits2 g) long2 ≡ left2)
      counts-own =
          let after = down-counts g rs a len l.first l.own2 l.long1 x.long2 guided-own left rs goes before long1 _ n moved-own in
          counts-are g valid left own2' long1 (shared.own_part l.own2 (bits2 g) long2) (keep-counts g valid left l.own2 long1 _ after)
          (e1 ∙ w.sound.sized.counts1)
          (length-own l.own2 (bits2 g) long2 ∙ e2 ∙ size_counts ∙ ap (λ (y : ℕ). y * 2 ^ bits2 g) (sym (length-keep left v1 l.own2)))

      -- a place in use is in use before
      was-live : (q : ℕ) → shared.touched l.own2 own2' (bits2 g) q ≡ true → live_in (entry l.own2) (bits2 g) q ≡ true
      was-live q t = go (or_split (live_in (entry l.own2) (bits2 g) q) (live_in (entry own2') (bits2 g) q) t)
        where
          go : (live_in (entry l.own2) (bits2 g) q ≡ true) ⊎ (live_in (entry own2') (bits2 g) q ≡ true) → live_in (entry l.own2) (bits2 g) q ≡ true
          go (inl e) = e
          go (inr e) =
              let o = kept-was left v1 l.own2 _ _ (live-owner v1 (chunks_of own2') g.p2 q e) in
              lt-ltb 0 (get_or l.own2 (q / 2 ^ bits2 g) 0) (omega (arith, o.0))

      counts-left : (long1 ≡ longs left v1) × (long2 ≡ shared.mixed l.own2 own2' (bits2 g) l.long2 left2)
      counts-left = (
        counts-own.0,
        mixed-is l.own2 own2' (bits2 g) l.long2 left2 long2 e2
            (λ q i t.
            sym (own_at l.own2 (bits2 g) long2 q (rw e2 i) ∙ rw (was-live q t)) ∙ ap (λ (ys : List ℕ). get_or ys q 0) counts-own.1)
            (λ q i t.
            moved_other g rs a len l.first l.own2 l.long1 l.long2 guided false moved q
            (or-none (live_in (entry l.own2) (bits2 g) q) (live_in (entry own2') (bits2 g) q) t).0),
      )

    -- x1 and x2 are the cells of the address; once chunks are closed, own2 and own3 are the owners, second and third the cells
    module _ {x1 x2 : ℕ} (k : Trailed g rs l.own2 l.own3 a x1 x2) where
      abbrev Closed2 : (own2 second : List ℕ) → Type 0
      Closed2 own2 second = (own2 ≡ without_owner (eqb n.first 0) (x1 - 1) l.own2) × (second ≡ blanked (eqb n.first 0) (x1 - 1) (bits2 g) l.second)

      abbrev Closed3 : (own3 third : List ℕ) → Type 0
      Closed3 own3 third = (own3 ≡ without_owner (eqb n.second 0) (x2 - 1) l.own3) × (third ≡ blanked (eqb n.second 0) (x2 - 1) (bits3 g) l.third)

      chunks-left : {own2 second : List ℕ} → Closed2 own2 second → {own3 third : List ℕ} → Closed3 own3 third
          → (own2 ≡ own2') × (own3 ≡ own3')
          × (second ≡ blanked (alone left g.p1 a len) (find l.own2 (suc (v1.serving a))) (bits2 g) l.second)
          × (third ≡ blanked (alone left g.p2 a len) (find l.own3 (suc (v2.serving a))) (bits3 g) l.third)
      chunks-left c2 c3 =
          let z1 = losing1 t x a len w in
          let z2 = losing2 t x a len w in (
            own_is z1 l.second g.p2 size2 k.first closes2 c2.0,
            own_is z2 l.third 32 size3 k.second closes3 c3.0,
            cells_are z1 l.second g.p2 size2 k.first closes2 c2.1,
            cells_are z2 l.third 32 size3 k.second closes3 c3.1,
          )

-- ---- what is known once the prefix is counted no more

-- s is the list without the route, m the number of its routes, n what is left at its places, x1 and x2 the cells of the address
pub record CountedOff : Type 0 where
  pub t : Table
  pub l : Lent
  pub a : ℕ
  pub len : ℕ
  pub at : ℕ
  pub ready : ToTakeIn t l a len at
  pub s : List ℕ
  pub taken : s ≡ removed l.list t.count (key (record_at l.list at))
  pub m : ℕ
  pub counted : m ≡ t.count - 1
  pub long1 : List ℕ
  pub long2 : List ℕ
  pub n : Left
  pub moved : CountsMoved t.geometry a len l.first l.long1 l.long2 false long1 long2 n
  pub same1 : length long1 ≡ length l.long1
  pub same2 : length long2 ≡ length l.long2
  pub x1 : ℕ
  pub x2 : ℕ
  pub trail : Trailed t.geometry (standing t l) l.own2 l.own3 a x1 x2

abbrev pub counted_off : {t : Table} {l : Lent} {a len at : ℕ} → ToTakeIn t l a len at
    → {s : List ℕ} → s ≡ removed l.list t.count (key (record_at l.list at)) → {m : ℕ} → m ≡ t.count - 1
    → {long1 long2 : List ℕ} {n : Left} → CountsMoved t.geometry a len l.first l.long1 l.long2 false long1 long2 n
    → length long1 ≡ length l.long1 → length long2 ≡ length l.long2
    → {x1 x2 : ℕ} → Trailed t.geometry (standing t l) l.own2 l.own3 a x1 x2 → CountedOff
counted_off {t} {l} {a} {len} {at} r {s} e {m} c {long1} {long2} {n} v e1 e2 {x1} {x2} k = record {
  t = t;
  l = l;
  a = a;
  len = len;
  at = at;
  ready = r;
  s = s;
  taken = e;
  m = m;
  counted = c;
  long1 = long1;
  long2 = long2;
  n = n;
  moved = v;
  same1 = e1;
  same2 = e2;
  x1 = x1;
  x2 = x2;
  trail = k;
}

module _ (o : CountedOff) where
  list-is : o.s ≡ removed o.l.list o.t.count (key_of o.a o.len)
  list-is = o.taken ∙ rw o.ready.named

  holds : ListHolds o.s o.m (left o.ready)
  holds =
      let w₀ = o.ready.may in
      let few : length o.l.list / 8 ≤ 4096 = omega (arith, w₀.sound.sized.room) in
      rw (list-is, o.counted) (rw w₀.old at (remove-holds o.l.list o.t.count few (key_of o.a o.len) w₀.sound.listed))

  pub take-one : (1 ≤ o.x1) × (1 ≤ o.x2)
  take-one = (told-one _ (v1 o.ready) _ _ _ o.trail.first, told-one _ (v2 o.ready) _ _ _ o.trail.second)

  pub take_second : Closing (eqb o.n.first 0) o.l.own2 o.l.second (o.x1 - 1) (bits2 o.t.geometry)
  take_second =
      let z = o.ready.may.sound.sized in
      closable o.ready (losing1 _ _ _ _ o.ready.may) _ o.t.geometry.p2 (size2 o.ready) o.trail.first (closes2 o.ready o.moved)
      z.few2 z.valid.near

  pub take-third : Closing (eqb o.n.second 0) o.l.own3 o.l.third (o.x2 - 1) (bits3 o.t.geometry)
  take-third =
      let z = o.ready.may.sound.sized in
      closable o.ready (losing2 _ _ _ _ o.ready.may) _ 32 (size3 o.ready) o.trail.second (closes3 o.ready o.moved)
      z.few3 (small o.ready)

  -- and once chunks are closed
  module _ {own2 second : List ℕ} (c2 : Closed2 o.ready o.moved o.trail own2 second)
      {own3 third : List ℕ} (c3 : Closed3 o.ready o.moved o.trail own3 third) where
    abbrev z1 : Losing (rs o.ready) (left o.ready) o.a (v1 o.ready) o.l.own2
    z1 = losing1 _ _ _ _ o.ready.may

    abbrev z2 : Losing (rs o.ready) (left o.ready) o.a (v2 o.ready) o.l.own3
    z2 = losing2 _ _ _ _ o.ready.may

    -- the second level then
    abbrev then2 : Level
    then2 = level2 o.t.geometry (chunks_of (own2' o.ready))

    pub take-pending : {y : ℕ} → y ≡ o.len
        → Pending o.t.geometry o.m o.a y o.s (cells o.l.first second third own2 own3)
    take-pending q =
        let under = farewell-underway _ _ _ _ o.ready.may in
        let is = chunks-left o.ready o.moved o.trail c2 c3 in
        rw (q, is.0, is.1, is.2, is.3) (record {
          listed = holds.listed;
          stale = λ ws par ready z.
              stale-agree o.t.geometry ws par o.a o.len o.l.first _ _ _ _ _ _
              (still-agree o.ready (v1 o.ready) (v1 o.ready) o.l.own2 z1 o.l.second o.t.geometry.p2 (size2 o.ready) refl)
              (still-agree o.ready (v2 o.ready) then2 o.l.own3 z2 o.l.third 32 (size3 o.ready) refl)
              (underway-stale _ _ _ _ _ _ under ws par ready (z ∙ holds.routes));
        })

    pub take_done : {first second' third' : List ℕ}
        → Repainted o.t.geometry (routes_of o.s o.m) (cells o.l.first second third own2 own3) first second' third'
        → TakenIn o.t o.l o.a o.len (record { geometry = o.t.geometry; count = o.m })
        (lent o.s first second' third' own2 own3 o.long1 o.long2)
    take_done h =
        let is = chunks-left o.ready o.moved o.trail c2 c3 in
        let h' = rw (holds.routes, is.0, is.1, is.2, is.3) at h in
        let are = counts-left o.ready o.moved o.same1 o.same2 in
        let first-is = h'.is_first
        ∙ laid-rendered _ (v1 o.ready) _ o.l.first o.ready.may.sound.sized.cells1 (top-clear _ (entry o.l.first)) in
        let second_is = h'.is_second
        ∙ painted o.ready (v1 o.ready) (v1 o.ready) o.l.own2 z1 o.l.second o.t.geometry.p2 (size2 o.ready) refl
        (chunks_of (own3' o.ready)) in
        let third-is = h'.is_third ∙ painted o.ready (v2 o.ready) then2 o.l.own3 z2 o.l.third 32 (size3 o.ready) refl no_chunks in
        record {
          state = rw (o.counted ∙ count-is o.ready);
          lent = rw (list-is, first-is, second_is, third-is, is.0, is.1, are.0, are.1);
        }
