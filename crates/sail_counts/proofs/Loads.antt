-- The routes of records that come one by one: each time the counts are those of the routes that came.
use mathlib.Core.Path.{◌≡◌, refl, sym, ◌∙◌, ap, subst}
use mathlib.Core.Logic.{◌⊎◌, inl, inr}
use mathlib.Core.Bool.{true, false, cond, or-true}
use mathlib.Core.List.{List, [], ◌∷◌, ◌++◌}
use Prim.Native.Nat.{ℕ, zero, suc, ◌+◌, ◌*◌, ◌^◌, ◌≤◌, ◌<◌}
use native.Mathlib.Nat.{not-suc-le-zero, le_of_suc-le-suc}
use native.Mathlib.Omega.{arith}
use lib.ListN.{length, get_or, get_or-eq_default}
use lib.Seq.{ext_get_or}
use borrow.Author.Tests.{lt-ltb, eq-eqb}
use Rattle.bits.specs.Slot.{slot}
use Rattle.bits.specs.Tab.{tabulate}
use Rattle.bits.proofs.Bools.{both, decided, below?}
use Rattle.standing.specs.Cells.{any, within, long}
use Rattle.routes.specs.Record.{record_at, routes_of, no_route}
use Rattle.routes.specs.declared.Route.{Route}
use Rattle.routes.proofs.Rows.{length-routes, nth-route, routes-snoc}
use Rattle.counts.specs.Counts.{OneMore}
use Rattle.counts.proofs.Changed.{many-snoc}
use Rattle.sail.specs.Geometry.{bits2}
use Rattle.sail.specs.Level.{entry, live_in}
use Rattle.sail.specs.declared.geometry.Geometry.{Geometry}
use Rattle.sail_theory.specs.Shared.{own_part, touched, mixed}
use Rattle.sail_theory.proofs.places.Alone.{length-own, own_at, length-mixed, mixed-at}
use Rattle.sail_counts.specs.Counted.{Counts}
use Rattle.sail_counts.specs.Tick.{Tickable, CountsMoved, Uncounted, CountedAll}
use Rattle.sail_counts.specs.declared.tick.Left.{Left}
use Rattle.sail_counts.proofs.Tallies.{length-ticked, Guided, up-tickable, up-counts, none-counts, counts-are}
use Rattle.sail_counts.proofs.SharedCounts.{own-guided, own-tickable, own-moved, moved_other}

-- a route that stands in the list makes its cells long
pub long-at : (rs : List Route) (p i k : ℕ) → k < length rs → within p i (get_or rs k no_route) ≡ true → long rs p i ≡ true
unfolding any
long-at [] p i k l e = absurd (not-suc-le-zero l)
long-at (r ∷ rs) p i zero l e = rw e
long-at (r ∷ rs) p i (suc k) l e = rw (long-at rs p i k (le_of_suc-le-suc l) e) (or-true (within p i r))

-- Counts over a pool: those that are 0 at the table's own places are 0 in its own part.
own-zero : (own : List ℕ) (d : ℕ) (xs : List ℕ) → ((q : ℕ) → q < length xs → live_in (entry own) d q ≡ true → get_or xs q 0 ≡ 0)
    → (q : ℕ) → get_or (own_part own d xs) q 0 ≡ 0
own-zero own d xs z q = go (below? q (length xs)) (decided (live_in (entry own) d q))
  where
    go : (q < length xs) ⊎ (length xs ≤ q) → (live_in (entry own) d q ≡ true) ⊎ (live_in (entry own) d q ≡ false) → get_or (own_part own d xs) q 0 ≡ 0
    go (inr l) e = get_or-eq_default (own_part own d xs) 0 (rw length-own l)
    go (inl l) (inl e) = own_at own d xs q l ∙ rw e (z q l e)
    go (inl l) (inr e) = own_at own d xs q l ∙ rw e

-- If the others stay, what is left is its own part mixed into what was there.
own-mixed : (own : List ℕ) (d : ℕ) (old now : List ℕ) → length now ≡ length old → ((q : ℕ) → live_in (entry own) d q ≡ false → get_or now q 0 ≡ get_or old q 0)
    → now ≡ mixed own own d old (own_part own d now)
own-mixed own d old now n stays =
    ext_get_or 0 _ _ (n ∙ sym (length-mixed own own d old (own_part own d now)))
    (λ q h. let l : q < length old = rw n at h in at q h (decided (live_in (entry own) d q)) ∙ sym (mixed-at own own d old (own_part own d now) q l))
  where
    at : (q : ℕ) → q < length now → (live_in (entry own) d q ≡ true) ⊎ (live_in (entry own) d q ≡ false)
        → get_or now q 0 ≡ cond (touched own own d q) (get_or (own_part own d now) q 0) (get_or old q 0)
    at q h (inl e) = rw e (sym (own_at own d now q h ∙ rw e))
    at q h (inr e) = rw e (stays q e)

-- the counts of the first k routes in the table's own part; what others count is what it was
pub record Come (g : Geometry) (s : List ℕ) (k : ℕ) (own2 l2 long1 long2 : List ℕ) : Type 0 where
  pub counts1 : length long1 ≡ 2 ^ g.p1
  pub counts2 : length long2 ≡ length own2 * 2 ^ bits2 g
  pub counts : Counts (routes_of s k) g own2 long1 (own_part own2 (bits2 g) long2)
  pub stay : (q : ℕ) → live_in (entry own2) (bits2 g) q ≡ false → get_or long2 q 0 ≡ get_or l2 q 0

module _ (g : Geometry) (s : List ℕ) (n : ℕ) (first own2 l1 l2 : List ℕ) (w : Uncounted g s n first own2 l1 l2) where
  pub none-come : Come g s 0 own2 l2 l1 l2
  unfolding routes_of tabulate
  none-come = record {
    counts1 = w.counts1;
    counts2 = w.counts2;
    counts = none-counts g own2 l1 (own_part own2 (bits2 g) l2) w.zero1 (own-zero own2 (bits2 g) l2 w.zero2);
    stay = λ q e. refl;
  }

  module _ (k : ℕ) (l : k < n) (long1 long2 : List ℕ) (c : Come g s k own2 l2 long1 long2) (r : Route) (read : r ≡ record_at s k) where
    abbrev mine : List ℕ
    mine = own_part own2 (bits2 g) long2

    guided : Guided g (routes_of s n) r.addr r.len first own2 long1 long2
    guided = record {
      valid = w.valid;
      cells1 = w.cells1;
      shows1 = w.shows1;
      small = rw read (w.records.each k l).prefix.addr_ok;
      held = λ h.
          let i = slot g.p1 r.addr in
          long-at (routes_of s n) g.p1 i k (rw length-routes l) (rw (nth-route s n k l, ← read) (both (lt-ltb g.p1 r.len h) (eq-eqb i i refl)));
      counts1 = c.counts1;
      counts2 = c.counts2;
    }

    guided-own : Guided g (routes_of s n) r.addr r.len first own2 long1 mine
    guided-own = own-guided g (routes_of s n) r.addr r.len first own2 long1 long2 guided

    more : OneMore r.addr r.len (routes_of s k) (routes_of s (k + 1))
    more =
        let e : routes_of s (k + 1) ≡ routes_of s k ++ (r ∷ [])
        = ap (routes_of s) (omega arith) ∙ routes-snoc s k ∙ ap (λ (x : Route). routes_of s k ++ (x ∷ [])) (sym read) in
        subst (OneMore r.addr r.len (routes_of s k)) (sym e) (many-snoc (routes_of s k) r)

    pub next-tickable : Tickable g r.addr r.len first long1 long2 true
    next-tickable =
        own-tickable g (routes_of s n) r.addr r.len first own2 long1 long2 guided true
        (up-tickable g (routes_of s n) r.addr r.len first own2 long1 mine guided-own (routes_of s k) (routes_of s (k + 1)) more
        (rw length-routes (omega (arith, w.records.few))) c.counts)

    pub next-come : (long1' long2' : List ℕ) (left : Left) → CountsMoved g r.addr r.len first long1 long2 true long1' long2' left
        → Come g s (k + 1) own2 l2 long1' long2'
    next-come long1' long2' left t = record {
      counts1 = ap length t.one.now ∙ length-ticked _ _ _ long1 ∙ c.counts1;
      counts2 = ap length t.two.now ∙ length-ticked _ _ _ long2 ∙ c.counts2;
      counts =
          up-counts g (routes_of s n) r.addr r.len first own2 long1 mine guided-own (routes_of s k) (routes_of s (k + 1)) more c.counts long1' _
          left (own-moved g (routes_of s n) r.addr r.len first own2 long1 long2 guided true t);
      stay = λ q e. moved_other g (routes_of s n) r.addr r.len first own2 long1 long2 guided true t q e ∙ c.stay q e;
    }

  -- all came
  pub all_come : (k : ℕ) (long1 long2 : List ℕ) → k ≡ n → Come g s k own2 l2 long1 long2 → CountedAll (routes_of s n) g own2 l2 long1 long2
  all_come k long1 long2 e c =
      let d = bits2 g in
      let same : length long2 ≡ length l2 = c.counts2 ∙ sym w.counts2 in
      let are = counts-are g w.valid (routes_of s n) own2 long1 (own_part own2 d long2) (rw e at c.counts) c.counts1
      (length-own own2 d long2 ∙ c.counts2) in
      record {
        first = are.0;
        second = own-mixed own2 d l2 long2 same c.stay ∙ ap (mixed own2 own2 d l2) are.1;
      }
