-- Elements that are drawn from other places of a list, one store at a time. A loop that moves them up starts at the last one and a loop that
-- moves them down at the first, so the element that is read is still what it was. All widths and all steps share this.
use mathlib.Core.Path.{◌≡◌, refl, sym, ap, ◌∙◌}
use mathlib.Core.Logic.{◌⊎◌, inl, inr, ◌≢◌}
use mathlib.Core.List.{List}
use Prim.Native.Nat.{ℕ, ◌+◌, ◌-◌, ◌≤◌, ◌<◌}
use native.Mathlib.Nat.{le_refl}
use native.Mathlib.Omega.{arith}
use lib.ListN.{length, get_or, set, length-set}
use lib.Seq.{ext_get_or, get_or-set_same, get_or-set_other}
use Rattle.std.proofs.lemmas.List.{get_or_default}
use Rattle.bits.proofs.Bools.{below?, equal?}
use Rattle.bits.proofs.Tabs.{length-tabulate, get_d_tabulate}
use Rattle.moves.specs.Moves.{drawn, shifted_up, shifted_down, Movable}
use Rattle.buffers.proofs.Ranges.{Side, below, inside, above, side, between_in, between-below, between-above}

module _ {A : Type 0} (z : A) (s : List A) (from : ℕ → ℕ) where
  pub length-drawn : (a e : ℕ) → length (drawn z s a e from) ≡ length s
  unfolding drawn
  length-drawn a e = length-tabulate (length s) _

  pub drawn-in : (a e j : ℕ) → j < length s → a ≤ j → j < e → get_or (drawn z s a e from) j z ≡ get_or s (from j) z
  unfolding drawn
  drawn-in a e j h l u = get_d_tabulate (length s) _ j z h ∙ rw (between_in a e j l u)

  pub drawn-before : (a e j : ℕ) → j < length s → j < a → get_or (drawn z s a e from) j z ≡ get_or s j z
  unfolding drawn
  drawn-before a e j h l = get_d_tabulate (length s) _ j z h ∙ rw (between-below a e j l)

  pub drawn-after : (a e j : ℕ) → j < length s → e ≤ j → get_or (drawn z s a e from) j z ≡ get_or s j z
  unfolding drawn
  drawn-after a e j h l = get_d_tabulate (length s) _ j z h ∙ rw (between-above a e j l)

  drawn-none : (a : ℕ) → s ≡ drawn z s a a from
  drawn-none a = ext_get_or z s (drawn z s a a from) (sym (length-drawn a a)) (λ j h. go j h (below? j a))
    where
      go : (j : ℕ) → j < length s → (j < a) ⊎ (a ≤ j) → get_or s j z ≡ get_or (drawn z s a a from) j z
      go j h (inl l) = sym (drawn-before a a j h l)
      go j h (inr l) = sym (drawn-after a a j h l)

  -- one more element is drawn, at either end: the two lists agree wherever the place is not i
  more : (a e b f i : ℕ) → i < length s → b ≤ i → i < f
      → ((j : ℕ) → j ≢ i → j < length s → get_or (drawn z s a e from) j z ≡ get_or (drawn z s b f from) j z)
      → set (drawn z s a e from) i (get_or s (from i) z) ≡ drawn z s b f from
  more a e b f i h l u same =
      ext_get_or z _ (drawn z s b f from) (rw (length-set, length-drawn a e, length-drawn b f)) (λ j k. go j (rw (length-set, length-drawn) at k) (equal? j i))
    where
      go : (j : ℕ) → j < length s → (j ≡ i) ⊎ (j ≢ i) → get_or (set (drawn z s a e from) i (get_or s (from i) z)) j z ≡ get_or (drawn z s b f from) j z
      go j k (inl q) = rw q (get_or-set_same (drawn z s a e from) i _ z (rw length-drawn h) ∙ sym (drawn-in b f i h l u))
      go j k (inr q) = get_or-set_other (drawn z s a e from) i j _ z q ∙ same j q k

  drawn-lower : (a e : ℕ) → a < e → a < length s → set (drawn z s (a + 1) e from) a (get_or s (from a) z) ≡ drawn z s a e from
  drawn-lower a e l h = more (a + 1) e a e a h (omega arith) l (λ j q k. go j q k (side a e j))
    where
      go : (j : ℕ) → j ≢ a → j < length s → Side a e j → get_or (drawn z s (a + 1) e from) j z ≡ get_or (drawn z s a e from) j z
      go j q k (below b) = drawn-before (a + 1) e j k (omega arith) ∙ sym (drawn-before a e j k b)
      go j q k (inside b u) = drawn-in (a + 1) e j k (omega (arith, q)) u ∙ sym (drawn-in a e j k b u)
      go j q k (above b u) = drawn-after (a + 1) e j k u ∙ sym (drawn-after a e j k u)

  drawn-higher : (a e : ℕ) → a ≤ e → e < length s → set (drawn z s a e from) e (get_or s (from e) z) ≡ drawn z s a (e + 1) from
  drawn-higher a e l h = more a e a (e + 1) e h l (omega arith) (λ j q k. go j q k (side a e j))
    where
      go : (j : ℕ) → j ≢ e → j < length s → Side a e j → get_or (drawn z s a e from) j z ≡ get_or (drawn z s a (e + 1) from) j z
      go j q k (below b) = drawn-before a e j k b ∙ sym (drawn-before a (e + 1) j k b)
      go j q k (inside b u) = drawn-in a e j k b u ∙ sym (drawn-in a (e + 1) j k b (omega arith))
      go j q k (above b u) = drawn-after a e j k u ∙ sym (drawn-after a (e + 1) j k (omega (arith, q)))

-- a turn of each loop
module _ {A : Type 0} (z : A) (s : List A) (d : ℕ) where
  up_step : (at e : ℕ) → 0 < at → at ≤ e → e + d ≤ length s
      → set (shifted_up z s at e d) (at - 1 + d) (get_or (shifted_up z s at e d) (at - 1) z) ≡ shifted_up z s (at - 1) e d
  up_step at e p l h =
      let v : get_or (shifted_up z s at e d) (at - 1) z ≡ get_or s (at - 1 + d - d) z =
      drawn-before z s (λ j. j - d) (at + d) (e + d) (at - 1) (omega arith) (omega arith) ∙ ap (λ (x : ℕ). get_or s x z) (omega arith) in
      let q : at + d ≡ at - 1 + d + 1 = omega arith in
      ap (λ (x : A). set (shifted_up z s at e d) (at - 1 + d) x) v
      ∙ ap (λ (b : ℕ). set (drawn z s b (e + d) (λ j. j - d)) (at - 1 + d) (get_or s (at - 1 + d - d) z)) q
      ∙ drawn-lower z s (λ j. j - d) (at - 1 + d) (e + d) (omega arith) (omega arith)

  down_step : (a at : ℕ) → a ≤ at → at + d < length s → set (shifted_down z s a at d) at (get_or (shifted_down z s a at d) (at + d) z) ≡ shifted_down z s a (at + 1) d
  down_step a at l h = rw (drawn-after z s (λ j. j + d) a at (at + d) h (omega arith)) (drawn-higher z s (λ j. j + d) a at l (omega arith))

-- the loop that moves up: the elements of l from `at` on and before e are moved by d
pub record MovingUp {A : Type 0} (z : A) (l : List A) (a e d : ℕ) (out : List A) (at : ℕ) : Type 0 where
  pub low : a ≤ at
  pub high : at ≤ e
  pub room : e + d ≤ length l
  pub size : length out ≡ length l
  pub is : out ≡ shifted_up z l at e d

pub moving-up-none : {A : Type 0} {z : A} {l : List A} {a e d : ℕ} → Movable a e d (length l) → MovingUp z l a e d l e
moving-up-none {A} {z} {l} {a} {e} m = record { low = m.rises; high = le_refl e; room = m.room; size = refl; is = drawn-none z l _ _ }

module _ {A : Type 0} {z : A} {l : List A} {a e d : ℕ} {out : List A} {at : ℕ} (r : MovingUp z l a e d out at) where
  pub moving-up-more : a < at → (x : A) → x ≡ get_or out (at - 1) x → MovingUp z l a e d (set out (at - 1 + d) x) (at - 1)
  moving-up-more t x q =
      let v : x ≡ get_or out (at - 1) z = q ∙ get_or_default out (at - 1) x z (omega (arith, r.size, r.high, r.room)) in
      let w : set out (at - 1 + d) (get_or out (at - 1) z) ≡ shifted_up z l (at - 1) e d = rw r.is (up_step z l d at e (omega arith) r.high r.room) in
      record {
        low = omega arith;
        high = let h = r.high in omega arith;
        room = r.room;
        size = length-set out _ _ ∙ r.size;
        is = ap (λ (y : A). set out (at - 1 + d) y) v ∙ w;
      }

  pub moving-up-all : at ≤ a → out ≡ shifted_up z l a e d
  moving-up-all t = let q : at ≡ a = omega (arith, r.low) in r.is ∙ rw q

-- the loop that moves down: those from a on and before `at` are moved
pub record MovingDown {A : Type 0} (z : A) (l : List A) (a e d : ℕ) (out : List A) (at : ℕ) : Type 0 where
  pub low : a ≤ at
  pub high : at ≤ e
  pub room : e + d ≤ length l
  pub size : length out ≡ length l
  pub is : out ≡ shifted_down z l a at d

pub moving-down-none : {A : Type 0} {z : A} {l : List A} {a e d : ℕ} → Movable a e d (length l) → MovingDown z l a e d l a
moving-down-none {A} {z} {l} {a} m = record { low = le_refl a; high = m.rises; room = m.room; size = refl; is = drawn-none z l _ _ }

module _ {A : Type 0} {z : A} {l : List A} {a e d : ℕ} {out : List A} {at : ℕ} (r : MovingDown z l a e d out at) where
  pub moving-down-more : at < e → (x : A) → x ≡ get_or out (at + d) x → MovingDown z l a e d (set out at x) (at + 1)
  moving-down-more t x q =
      let v : x ≡ get_or out (at + d) z = q ∙ get_or_default out (at + d) x z (omega (arith, r.size, r.room)) in
      let w : set out at (get_or out (at + d) z) ≡ shifted_down z l a (at + 1) d = rw r.is (down_step z l d a at r.low (omega (arith, r.room))) in
      record {
        low = let h = r.low in omega arith;
        high = omega arith;
        room = r.room;
        size = length-set out _ _ ∙ r.size;
        is = ap (λ (y : A). set out at y) v ∙ w;
      }

  pub moving-down-all : e ≤ at → out ≡ shifted_down z l a e d
  moving-down-all t = let q : at ≡ e = omega (arith, r.high) in r.is ∙ rw q
