-- A step in the counts of a pool that others use too. The place that it is taken at is the table's own: so it is the same step in the table's own
-- part of the counts, and what others count stays.
use mathlib.Core.Path.{◌≡◌, refl, sym, ◌∙◌, ap}
use mathlib.Core.Logic.{◌⊎◌, inl, inr, ◌≢◌}
use mathlib.Core.Bool.{Bool, true, false, cond, true≢false}
use mathlib.Core.List.{List}
use Prim.Native.Nat.{ℕ, ◌<◌}
use native.Mathlib.Omega.{arith}
use lib.Dec.{ltb}
use lib.ListN.{get_or, length, set, length-set}
use lib.Seq.{ext_get_or, get_or-set_same, get_or-set_other}
use borrow.Author.Tests.{ltb-true}
use Rattle.bits.proofs.Bools.{equal?}
use Rattle.routes.specs.declared.Route.{Route}
use Rattle.sail.specs.Geometry.{bits2}
use Rattle.sail.specs.Level.{live_in, entry}
use Rattle.sail.specs.declared.geometry.Geometry.{Geometry}
use Rattle.sail_theory.specs.Shared.{own_part}
use Rattle.sail_theory.proofs.places.Alone.{length-own, own_at}
use Rattle.sail_counts.specs.Tick.{step, ticked, left_at, second_at, Ticks, Tickable, CountsMoved}
use Rattle.sail_counts.specs.declared.tick.Left.{Left}
use Rattle.sail_counts.proofs.Leads.{second-place, second-served}
use Rattle.sail_counts.proofs.Tallies.{Guided}

-- a place of the table's own
pub record OwnPlace (own : List ℕ) (d q : ℕ) (counts : List ℕ) : Type 0 where
  pub inside : q < length counts
  pub live : live_in (entry own) d q ≡ true

module _ (own : List ℕ) (d : ℕ) (q : ℕ) (counts : List ℕ) where
  own-there : OwnPlace own d q counts → get_or (own_part own d counts) q 0 ≡ get_or counts q 0
  own-there w = own_at own d counts q w.inside ∙ rw w.live

  -- a number stored there
  own-set : OwnPlace own d q counts → (n : ℕ) → own_part own d (set counts q n) ≡ set (own_part own d counts) q n
  own-set w n =
      ext_get_or 0 _ _ size (λ x h. let l : x < length counts = rw (length-own, length-set) at h in at x l (equal? x q))
    where
      size : length (own_part own d (set counts q n)) ≡ length (set (own_part own d counts) q n)
      size = length-own own d (set counts q n) ∙ length-set counts q n ∙ sym (length-own own d counts) ∙ sym (length-set (own_part own d counts) q n)

      at : (x : ℕ) → x < length counts → (x ≡ q) ⊎ (x ≢ q) → get_or (own_part own d (set counts q n)) x 0 ≡ get_or (set (own_part own d counts) q n) x 0
      at x l (inl e) =
          own_at own d (set counts q n) x (rw length-set l)
          ∙ rw (e, w.live) (get_or-set_same counts q n 0 w.inside ∙ sym (get_or-set_same (own_part own d counts) q n 0 (rw length-own w.inside)))
      at x l (inr e) =
          own_at own d (set counts q n) x (rw length-set l)
          ∙ ap (λ (y : ℕ). cond (live_in (entry own) d x) y 0) (get_or-set_other counts q x n 0 e)
          ∙ sym (own_at own d counts x l) ∙ sym (get_or-set_other (own_part own d counts) q x n 0 e)

-- A step, where it is taken.
module _ (own : List ℕ) (d : ℕ) (longer up : Bool) (q : ℕ) (counts : List ℕ) (w : longer ≡ true → OwnPlace own d q counts) where
  pub own-ticked : own_part own d (ticked longer up q counts) ≡ ticked longer up q (own_part own d counts)
  unfolding ticked
  own-ticked = go longer refl
    where
      go : (b : Bool) → longer ≡ b
          → own_part own d (cond b (set counts q (step up (get_or counts q 0))) counts)
          ≡ cond b (set (own_part own d counts) q (step up (get_or (own_part own d counts) q 0))) (own_part own d counts)
      go false e = refl
      go true e = own-set own d q counts (w e) _ ∙ ap (λ (y : ℕ). set (own_part own d counts) q (step up y)) (sym (own-there own d q counts (w e)))

  pub own-left : left_at longer up q counts ≡ left_at longer up q (own_part own d counts)
  unfolding left_at
  own-left = go longer refl
    where
      go : (b : Bool) → longer ≡ b → cond b (step up (get_or counts q 0)) 1 ≡ cond b (step up (get_or (own_part own d counts) q 0)) 1
      go false e = refl
      go true e = ap (step up) (sym (own-there own d q counts (w e)))

  pub own-ticks : Ticks longer up q (own_part own d counts) → Ticks longer up q counts
  own-ticks t = record { inside = λ e. (w e).inside; steps = λ e. rw (own-there own d q counts (w e)) at (t.steps e) }

  -- what others count stays
  pub ticked-other : (x : ℕ) → live_in (entry own) d x ≡ false → get_or (ticked longer up q counts) x 0 ≡ get_or counts x 0
  unfolding ticked
  ticked-other x f = go longer refl
    where
      go : (b : Bool) → longer ≡ b → get_or (cond b (set counts q (step up (get_or counts q 0))) counts) x 0 ≡ get_or counts x 0
      go false e = refl
      go true e = get_or-set_other counts q x _ 0 (λ z. true≢false (sym (w e).live ∙ ap (live_in (entry own) d) (sym z) ∙ f))

-- The step of a prefix in both levels' counts.
module _ (g : Geometry) (all : List Route) (a len : ℕ) (first own2 long1 long2 : List ℕ) (w : Guided g all a len first own2 long1 long2) where
  abbrev mine : List ℕ → List ℕ
  mine xs = own_part own2 (bits2 g) xs

  pub own-guided : Guided g all a len first own2 long1 (mine long2)
  own-guided = record {
    valid = w.valid;
    cells1 = w.cells1;
    shows1 = w.shows1;
    small = w.small;
    held = w.held;
    counts1 = w.counts1;
    counts2 = length-own own2 (bits2 g) long2 ∙ w.counts2;
  }

  -- the place that the first cell leads to is the table's own
  here : ltb g.p2 len ≡ true → OwnPlace own2 (bits2 g) (second_at g first a) long2
  here e =
      let v = w.valid in
      let held = w.held (omega (arith, ltb-true g.p2 len e)) in
      let s = second-served g v all first own2 w.cells1 w.shows1 a w.small held in
      let is = second-place g v all first own2 w.cells1 w.shows1 a w.small held in
      record { inside = rw (is, w.counts2) s.inside; live = rw is s.used }

  module _ (up : Bool) where
    pub own-tickable : Tickable g a len first long1 (mine long2) up → Tickable g a len first long1 long2 up
    own-tickable t = record {
      valid = t.valid;
      there = t.there;
      some = t.some;
      ticks1 = t.ticks1;
      ticks2 = own-ticks own2 (bits2 g) (ltb g.p2 len) up (second_at g first a) long2 here t.ticks2;
    }

    module _ {long1' long2' : List ℕ} {left : Left} (t : CountsMoved g a len first long1 long2 up long1' long2' left) where
      pub own-moved : CountsMoved g a len first long1 (mine long2) up long1' (mine long2') left
      own-moved = record {
        one = t.one;
        two = record {
          now = ap mine t.two.now ∙ own-ticked own2 (bits2 g) (ltb g.p2 len) up (second_at g first a) long2 here;
          is_left = t.two.is_left ∙ own-left own2 (bits2 g) (ltb g.p2 len) up (second_at g first a) long2 here;
        };
      }

      pub moved_other : (q : ℕ) → live_in (entry own2) (bits2 g) q ≡ false → get_or long2' q 0 ≡ get_or long2 q 0
      moved_other q f =
          ap (λ (x : List ℕ). get_or x q 0) t.two.now ∙ ticked-other own2 (bits2 g) (ltb g.p2 len) up (second_at g first a) long2 here q f
