-- All that is lent, written anew: what repainting the whole table asks, what laying routes over pools leaves there, and what a load leaves.
use mathlib.Core.Path.{◌≡◌, refl, sym, ◌∙◌, ap, subst}
use mathlib.Core.Logic.{◌⊎◌, inl, inr}
use mathlib.Core.Bool.{true, false, cond, true≢false}
use mathlib.Core.List.{List, []}
use Prim.Native.Nat.{ℕ, ◌-◌, ◌*◌, ◌/◌, ◌^◌, ◌≤◌, ◌<◌, zero-le}
use native.Mathlib.Omega.{arith}
use native.Mathlib.Nat.{div-eq_of_lt}
use lib.Dec.{eqb, ltb}
use lib.ListN.{length, get_or, replicate, length-replicate}
use lib.Seq.{ext_get_or}
use borrow.Author.Tests.{le-leb, eqb-true}
use Rattle.bits.specs.Slot.{slot}
use Rattle.bits.proofs.Slots.{slot_lt, cut-zero}
use Rattle.bits.proofs.Bools.{and_split, decided}
use Rattle.bits.proofs.Tabs.{get_d-zeros}
use Rattle.routes.specs.Route.{Good}
use Rattle.standing.specs.Cells.{within, long}
use Rattle.routes.specs.Said.{accepted}
use Rattle.routes.specs.declared.Route.{Route}
use Rattle.routes.proofs.Goods.{good-fine}
use Rattle.routes.proofs.Rows.{length-routes, records-good}
use Rattle.standing.proofs.ListParts.{any_some}
use Rattle.sail.specs.Geometry.{bits2, bits3}
use Rattle.sail.specs.Lent.{Lent, Cells, lent, cells}
use Rattle.sail.specs.Level.{Level, Chunks, chunks_of, no_chunks, entry, below, level1, level2}
use Rattle.sail.specs.Sizes.{Celled}
use Rattle.sail.specs.declared.geometry.Geometry.{Geometry}
use Rattle.sail.specs.declared.table.Table.{Table}
use Rattle.sail_paint.specs.Stale.{meets, stale_below, RightButStale, Repainted}
use Rattle.sail_paint.specs.Pending.{Pending}
use Rattle.sail_theory.specs.Render.{shown, pool, laid_over, Fits, room_of}
use Rattle.sail_theory.specs.Shared.{touched, mixed}
use Rattle.sail_theory.specs.Calls.{Owners, owners_after, no_owners, input_routes, state_of}
use Rattle.sail_theory.specs.Facts.{SameSize, TableHolds}
use Rattle.sail_theory.proofs.places.Alone.{Blank, length-mixed, mixed-at, mixed-same, blank-second, blank-third, blank-long2}
use Rattle.sail_theory.proofs.places.Places.{chunk-lt, live-owner}
use Rattle.sail_theory.proofs.places.Pools.{length-laid, laid-at, pool-shown, laid-rendered, length-pool, pool-shows}
use Rattle.sail_theory.proofs.places.Rendered.{top-clear}
use Rattle.sail_theory.proofs.calls.Load.{Fronts, fronts-none, settles, loadable-holds}
use Rattle.sail_theory.proofs.calls.SameSizes.{sized_same}
use Rattle.buffers.specs.Fill.{padded}
use Rattle.sail_counts.specs.Tick.{Uncounted, CountedAll}
use Rattle.sail_owners.specs.Owners.{owners, Ownable}
use Rattle.sail_renew.specs.Renew.{Layable, laid_in, Wiped, Renewable, anew}
use Rattle.sail_renew.proofs.Lists.{padded-written}

-- every cell lies under the prefix of no bits
all_meet : (p i : ℕ) → i < 2 ^ p → meets 0 0 p i ≡ true
unfolding meets
all_meet p i h =
    let z : i / 2 ^ (p - 0) ≡ 0 = div-eq_of_lt (let e : p - 0 ≡ p = omega arith in rw e h) in
    rw (le-leb 0 p zero-le, z)

-- a long cell is one of its level
long_lt : (rs : List Route) (p i : ℕ) → p ≤ 32 → Good rs → long rs p i ≡ true → i < 2 ^ p
long_lt rs p i h good e = any_some (within p i) rs (i < 2 ^ p) e (λ r m t.
    let c = eqb-true (slot p r.addr) i (and_split (ltb p r.len) (eqb (slot p r.addr) i) t).1 in
    omega (arith, c, slot_lt p r.addr h (good-fine rs good r m).prefix.addr_ok))

-- so a live place of the level below is stale: nothing is asked of the cells of a pool
all-stale : (rs : List Route) → Good rs → (v : Level) → v.bits ≤ 32 → (own : List ℕ) (p : ℕ) → Fits rs v (chunks_of own) → (k : Chunks) (cells : List ℕ)
    → RightButStale rs (below v (chunks_of own) p) k (stale_below 0 0 v (chunks_of own) p) cells
all-stale rs good v h own p f k cells = record {
  right = λ q l u e.
      let here = (f.lies _ _ (chunk-lt (p - v.bits) (length own) q l) (live-owner v (chunks_of own) p q u)).2 in
      absurd (true≢false (sym (all_meet v.bits _ (long_lt rs v.bits _ h good here)) ∙ rw u at e));
}

-- the cells of a pool laid over what it held
pool-mixed : (rs : List Route) (v : Level) (own : List ℕ) (p : ℕ) (k : Chunks) (old : List ℕ) → length old ≡ (below v (chunks_of own) p).places
    → laid_over rs (below v (chunks_of own) p) k old ≡ mixed own own (p - v.bits) old (pool rs (below v (chunks_of own) p) k)
pool-mixed rs v own p k old n =
    ext_get_or 0 _ _ (length-laid old _ _ ∙ sym (length-mixed own own (p - v.bits) old _)) (λ q h.
    let l : q < length old = rw length-laid at h in
    laid-at old low.live (shown rs low k) q l ∙ at q l (decided (low.live q)) ∙ sym (mixed-at own own (p - v.bits) old (pool rs low k) q l))
  where
    low : Level
    low = below v (chunks_of own) p

    at : (q : ℕ) → q < length old → ((below v (chunks_of own) p).live q ≡ true) ⊎ ((below v (chunks_of own) p).live q ≡ false)
        → cond ((below v (chunks_of own) p).live q) (shown rs (below v (chunks_of own) p) k q) (get_or old q 0)
        ≡ cond (touched own own (p - v.bits) q) (get_or (pool rs (below v (chunks_of own) p) k) q 0) (get_or old q 0)
    at q l (inl e) = rw e (sym (pool-shown rs low k q (omega (arith, l, n)) e))
    at q l (inr e) = rw e

-- The routes of an input laid over pools.
module _ (g : Geometry) (input : List ℕ) (l : Lent) (b : Layable g input l) where
  abbrev routes : List Route
  routes = input_routes input

  abbrev over : Cells
  over = cells l.first l.second l.third l.own2 l.own3

  good : Good routes
  good = records-good input (length input / 8) b.readable.records

  pub fits-list : length input ≤ length l.list
  fits-list = omega (arith, b.readable.whole, b.roomy, b.sized.whole)

  celled : Celled g over
  celled = record {
    valid = b.sized.valid;
    cells1 = b.sized.cells1;
    few2 = b.sized.few2;
    cells2 = b.sized.cells2;
    few3 = b.sized.few3;
    cells3 = b.sized.cells3;
  }

  -- all may be stale
  pub pending : Pending g (length input / 8) 0 0 input over
  pending =
      let v = b.sized.valid in
      let w = b.readable.whole in
      record {
        listed = record { records = b.readable.records; whole = omega arith; zeros = λ j h l. absurd (omega arith) };
        stale = λ ws par ready is. record {
          ready = ready;
          celled = celled;
          prefix = record { len_ok = omega arith; addr_ok = omega arith; clear = cut-zero 0 0 (omega arith) refl };
          fits2 = rw is b.fits2;
          fits3 = rw is b.fits3;
          right1 = record { right = λ q h u e. absurd (true≢false (sym (all_meet g.p1 q h) ∙ e)) };
          right2 = rw is (all-stale routes good (level1 g) (omega arith) l.own2 g.p2 b.fits2 (chunks_of l.own3) l.second);
          right3 = rw is (all-stale routes good (level2 g (chunks_of l.own2)) (omega arith) l.own3 32 b.fits3 no_chunks l.third);
        };
      }

  -- the cells are painted, and the first counts are 0
  module _ (first second third : List ℕ) (painted : Repainted g routes over first second third) where
    first-is : first ≡ pool routes (level1 g) (chunks_of l.own2)
    first-is = painted.is_first
        ∙ laid-rendered routes (level1 g) (chunks_of l.own2) l.first b.sized.cells1 (top-clear g.p1 (entry l.first))

    pub uncounted : (zeros : List ℕ) → zeros ≡ replicate (length l.long1) 0
        → Uncounted g input (length input / 8) first l.own2 zeros l.long2
    uncounted zeros e = record {
      valid = b.sized.valid;
      records = b.readable.records;
      cells1 = ap length first-is ∙ length-pool routes (level1 g) (chunks_of l.own2);
      shows1 = rw first-is (pool-shows routes (level1 g) (chunks_of l.own2) b.fits2);
      counts1 = ap length e ∙ length-replicate (length l.long1) 0 ∙ b.sized.counts1;
      counts2 = b.sized.counts2 ∙ b.sized.cells2;
      zero1 = λ q. rw e (get_d-zeros (length l.long1) q);
      zero2 = b.uncounted;
    }

    pub lays : ((j : ℕ) → get_or input j 0 < 256) → (list long1 long2 : List ℕ) → list ≡ padded input (length l.list)
        → CountedAll routes g l.own2 l.long2 long1 long2
        → lent list first second third l.own2 l.own3 long1 long2 ≡ laid_in g input l
    lays bytes list long1 long2 put counted =
        let room : length l.list ≡ room_of l * 8 = omega (arith, b.sized.whole) in
        let listed = put ∙ ap (padded input) room ∙ padded-written input bytes b.readable (room_of l) b.roomy in
        let second_is = painted.is_second ∙ pool-mixed routes (level1 g) l.own2 g.p2 (chunks_of l.own3) l.second b.sized.cells2 in
        let third-is = painted.is_third ∙ pool-mixed routes (level2 g (chunks_of l.own2)) l.own3 32 no_chunks l.third b.sized.cells3 in
        λ i. record {
          list = listed i;
          first = first-is i;
          second = second_is i;
          third = third-is i;
          own2 = l.own2;
          own3 = l.own3;
          long1 = counted.first i;
          long2 = counted.second i;
        }

-- What a load leaves.
module _ (t : Table) (l : Lent) (input : List ℕ) (w : Renewable t input l) where
  abbrev g : Geometry
  g = t.geometry

  abbrev rs : List Route
  rs = input_routes input

  -- the owners of announcing the routes in order
  abbrev o : Owners
  o = owners_after g (no_owners l) rs

  ends : Fronts t l rs [] o
  ends = (settles (accepted []) t l rs [] (no_owners l) (fronts-none t l rs w.loadable)).ends

  -- it is a sound table
  holds : TableHolds t l rs (state_of t rs) (anew t l input)
  holds = loadable-holds t l rs w.loadable

  module _ (second third z2 z3 long2 : List ℕ) (z : Wiped l.second l.third l.own2 l.own3 l.long2 second third z2 z3 long2) where
    none : (z : List ℕ) (n : ℕ) → z ≡ replicate n 0 → (length z ≡ n) × (z ≡ replicate (length z) 0)
    none z n e = let q : length z ≡ n = ap length e ∙ length-replicate n 0 in (q, rw q e)

    pub ownable : Ownable g input z2 z3
    ownable =
        let s = w.loadable.sized in
        let n2 = none z2 (length l.own2) z.none2 in
        let n3 = none z3 (length l.own3) z.none3 in
        record {
          valid = s.valid;
          records = w.readable.records;
          few2 = omega (arith, n2.0, s.few2);
          few3 = omega (arith, n3.0, s.few3);
          enough2 = omega (arith, n2.0, w.loadable.enough2);
          enough3 = omega (arith, n3.0, w.loadable.enough3);
          none2 = n2.1;
          none3 = n3.1;
        }

    module _ (own2 own3 : List ℕ) (opens : owners own2 own3 ≡ owners_after g (owners z2 z3) rs) where
      owned : owners own2 own3 ≡ o
      owned = rw (z.none2, z.none3) at opens

      -- what is lent when the routes are laid
      abbrev bare : Owners → Lent
      bare x = lent l.list l.first second third x.own2 x.own3 l.long1 long2

      bare-size : SameSize l (bare o)
      bare-size = record {
        list = refl;
        first = refl;
        second = (none second (length l.second) z.cells2).0;
        third = (none third (length l.third) z.cells3).0;
        chunks2 = ends.len2;
        chunks3 = ends.len3;
        counts1 = refl;
        counts2 = (none long2 (length l.long2) z.counts2).0;
      }

      pub layable : Layable g input (bare (owners own2 own3))
      layable = subst (λ (x : Owners). Layable g input (bare x)) (sym owned) (record {
        readable = w.readable;
        sized = sized_same g l (bare o) w.loadable.sized bare-size;
        roomy = omega (arith, w.loadable.roomy, length-routes input (length input / 8));
        fits2 = ends.fits2;
        fits3 = ends.fits3;
        uncounted = λ q h e. rw z.counts2 (get_d-zeros (length l.long2) q);
      })

      -- over zeros it is the whole table
      zeros-blank : (own : List ℕ) (d n : ℕ) (xs : List ℕ) → xs ≡ replicate n 0 → Blank own d xs
      zeros-blank own d n xs e = record { zero = λ q h f. rw e (get_d-zeros n q) }

      whole : laid_in g input (bare o) ≡ anew t l input
      whole =
          let size = holds.size in
          let s = holds.sound in
          rw (
            mixed-same o.own2 o.own2 (bits2 g) second (anew t l input).second (size.second ∙ sym bare-size.second)
                (zeros-blank o.own2 (bits2 g) (length l.second) second z.cells2) (blank-second (state_of t rs) (anew t l input) s),
            mixed-same o.own3 o.own3 (bits3 g) third (anew t l input).third (size.third ∙ sym bare-size.third)
                (zeros-blank o.own3 (bits3 g) (length l.third) third z.cells3) (blank-third (state_of t rs) (anew t l input) s),
            mixed-same o.own2 o.own2 (bits2 g) long2 (anew t l input).long2 (size.counts2 ∙ sym bare-size.counts2)
                (zeros-blank o.own2 (bits2 g) (length l.long2) long2 z.counts2) (blank-long2 (state_of t rs) (anew t l input) s),
          )

      pub renews : (e : Lent) → e ≡ laid_in g input (bare (owners own2 own3)) → e ≡ anew t l input
      renews e is = is ∙ ap (λ (x : Owners). laid_in g input (bare x)) owned ∙ whole
