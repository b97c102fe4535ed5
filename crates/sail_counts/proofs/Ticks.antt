-- One step at the place that serves a route, in the counts of a level: live places then count the routes with it, or without it. Said of any
-- level in which no two live places stand for one cell, and in which a live place serves the route where it is longer than the level.
use mathlib.Core.Path.{◌≡◌, refl, sym, ◌∙◌, ap}
use mathlib.Core.Logic.{◌⊎◌, inl, inr, ◌≢◌}
use mathlib.Core.Bool.{Bool, true, false, not, ◌&&◌, cond, true≢false}
use mathlib.Core.List.{List}
use Prim.Native.Nat.{ℕ, ◌-◌, ◌≤◌, ◌<◌}
use native.Mathlib.Omega.{arith}
use lib.Dec.{eqb, ltb}
use lib.ListN.{get_or, length, set}
use lib.Seq.{get_or-set_same, get_or-set_other}
use borrow.Author.Tests.{ltb-true, lt-ltb, le-ltb, eq-eqb, ne_eqb}
use Rattle.bits.specs.Slot.{slot}
use Rattle.bits.proofs.Bools.{decided, below?, equal?}
use Rattle.standing.specs.Cells.{long}
use Rattle.routes.specs.declared.Route.{Route}
use Rattle.counts.specs.Counts.{how_many, OneMore}
use Rattle.counts.proofs.Many.{many-le, many-none, many-some}
use Rattle.counts.proofs.Changed.{more-own, more-other, more-short}
use Rattle.sail.specs.Level.{Level}
use Rattle.sail_theory.proofs.places.Places.{LiveFor, Apart}
use Rattle.sail.specs.Sound.{Counted}
use Rattle.sail_counts.specs.Tick.{step, ticked, left_at, Ticks}

-- the same counts for routes that count alike
pub as-counted : (rs rs' : List Route) (v : Level) (counts : List ℕ) → ((p i : ℕ) → how_many rs' p i ≡ how_many rs p i) → Counted rs v counts
    → Counted rs' v counts
as-counted rs rs' v counts e c = record { true_there = λ q l u. c.true_there q l u ∙ sym (e v.bits (v.at q)); blank = c.blank }

-- what the count is at the place that serves an address
pub served-count : (rs : List Route) (v : Level) (counts : List ℕ) → Counted rs v counts → (a : ℕ) → LiveFor v a
    → get_or counts (v.serving a) 0 ≡ how_many rs v.bits (slot v.bits a)
served-count rs v counts c a s = c.true_there (v.serving a) s.inside s.used ∙ ap (how_many rs v.bits) s.stands

-- a step that is not gone, or at a place under another name
pub ticked-as : (longer up : Bool) (q q' : ℕ) (counts : List ℕ) → (longer ≡ true → q ≡ q') → ticked longer up q counts ≡ ticked longer up q' counts
unfolding ticked
ticked-as true up q q' counts e = rw (e refl)
ticked-as false up q q' counts e = refl

pub left_as : (longer up : Bool) (q q' : ℕ) (counts : List ℕ) → (longer ≡ true → q ≡ q') → left_at longer up q counts ≡ left_at longer up q' counts
unfolding left_at
left_as true up q q' counts e = rw (e refl)
left_as false up q q' counts e = refl

module _ (a len : ℕ) (rs rs' : List Route) (m : OneMore a len rs rs') (v : Level) (apart : Apart v) (served : v.bits < len → LiveFor v a)
    (counts : List ℕ) (size : length counts ≡ v.places) where
  abbrev p : ℕ
  p = v.bits

  abbrev here : ℕ
  here = v.serving a

  -- from the counts of `old` to those of `new`, by a step at the place
  module _ (old new : List Route) (up : Bool)
      (own : p < len → how_many new p (slot p a) ≡ step up (how_many old p (slot p a)))
      (other : (i : ℕ) → (slot p a ≡ i → ⊥) → how_many new p i ≡ how_many old p i)
      (short : len ≤ p → (i : ℕ) → how_many new p i ≡ how_many old p i)
      (c : Counted old v counts) where
    stepped : Counted new v (ticked (ltb p len) up here counts)
    unfolding ticked
    stepped = go (below? p len)
      where
        go : (p < len) ⊎ (len ≤ p) → Counted new v (cond (ltb p len) (set counts here (step up (get_or counts here 0))) counts)
        go (inr l) = rw (le-ltb p len l) (record { true_there = λ q u e. c.true_there q u e ∙ sym (short l (v.at q)); blank = c.blank })
        go (inl l) = rw (lt-ltb p len l) (record { true_there = λ q u e. there q u e (equal? q here); blank = λ q u e. blank q u e (equal? q here) })
          where
            s : LiveFor v a
            s = served l

            there : (q : ℕ) → q < v.places → v.live q ≡ true → (q ≡ here) ⊎ (q ≢ here)
                → get_or (set counts here (step up (get_or counts here 0))) q 0 ≡ how_many new p (v.at q)
            there q u e (inl y) =
                rw (y, s.stands)
                (get_or-set_same counts here (step up (get_or counts here 0)) 0 (rw size s.inside)
                ∙ ap (step up) (served-count old v counts c a s) ∙ sym (own l))
            there q u e (inr y) =
                get_or-set_other counts here q (step up (get_or counts here 0)) 0 y
                ∙ c.true_there q u e ∙ sym (other (v.at q) (λ z. y (apart q here u s.inside e s.used (sym z ∙ sym s.stands))))

            blank : (q : ℕ) → q < v.places → v.live q ≡ false → (q ≡ here) ⊎ (q ≢ here) → get_or (set counts here (step up (get_or counts here 0))) q 0 ≡ 0
            blank q u e (inl y) = absurd (true≢false (sym s.used ∙ ap v.live (sym y) ∙ e))
            blank q u e (inr y) = get_or-set_other counts here q (step up (get_or counts here 0)) 0 y ∙ c.blank q u e

  -- up: the route comes
  pub up-counted : Counted rs v counts → Counted rs' v (ticked (ltb p len) true here counts)
  up-counted c = stepped rs rs' true (more-own a len rs rs' m p) (more-other a len rs rs' m p) (more-short a len rs rs' m p) c

  -- down: it goes
  pub down-counted : Counted rs' v counts → Counted rs v (ticked (ltb p len) false here counts)
  down-counted c = stepped rs' rs false
      (λ l. omega (arith, more-own a len rs rs' m p l)) (λ i n. sym (more-other a len rs rs' m p i n)) (λ l i. sym (more-short a len rs rs' m p l i)) c

  inside : ltb p len ≡ true → here < length counts
  inside e = rw size (served (ltb-true p len e)).inside

  -- the step can be gone
  pub up-ticks : length rs ≤ 4096 → Counted rs v counts → Ticks (ltb p len) true here counts
  up-ticks few c = record {
    inside = inside;
    steps = λ e. record {
      few = λ _. omega (arith, served-count rs v counts c a (served (ltb-true p len e)), many-le rs p (slot p a));
      some = λ z. absurd (true≢false z);
    };
  }

  pub down-ticks : Counted rs' v counts → Ticks (ltb p len) false here counts
  down-ticks c = record {
    inside = inside;
    steps = λ e. record {
      few = λ z. absurd (true≢false (sym z));
      some = λ _. let l = ltb-true p len e in omega (arith, served-count rs' v counts c a (served l), more-own a len rs rs' m p l);
    };
  }

  -- what is left is 0 exactly where the route alone needed a chunk at the level
  pub down-left : Counted rs' v counts → eqb (left_at (ltb p len) false here counts) 0 ≡ (ltb p len && not (long rs p (slot p a)))
  unfolding left_at
  down-left c = go (below? p len)
    where
      go : (p < len) ⊎ (len ≤ p) → eqb (cond (ltb p len) (get_or counts here 0 - 1) 1) 0 ≡ (ltb p len && not (long rs p (slot p a)))
      go (inr l) = rw (le-ltb p len l)
      go (inl l) = rw (lt-ltb p len l) (at (decided (long rs p (slot p a))))
        where
          is : get_or counts here 0 - 1 ≡ how_many rs p (slot p a)
          is = omega (arith, served-count rs' v counts c a (served l), more-own a len rs rs' m p l)

          at : (long rs p (slot p a) ≡ true) ⊎ (long rs p (slot p a) ≡ false) → eqb (get_or counts here 0 - 1) 0 ≡ not (long rs p (slot p a))
          at (inl e) = rw e (ne_eqb (get_or counts here 0 - 1) 0 (λ z. omega (arith, is, many-some rs p (slot p a) e)))
          at (inr e) = rw e (eq-eqb (get_or counts here 0 - 1) 0 (is ∙ many-none rs p (slot p a) e))
