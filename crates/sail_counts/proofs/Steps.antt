-- The code of a step: one count, and both levels.
use mathlib.Core.Path.{◌≡◌, ◌∙◌}
use mathlib.Core.Bool.{Bool, true, false}
use mathlib.Core.List.{List}
use Prim.Native.Nat.{ℕ, ◌+◌, ◌-◌, ◌<◌}
use native.Mathlib.Omega.{arith}
use lib.Dec.{ltb}
use lib.ListN.{get_or, set}
use Rattle.bits.specs.Slot.{slot}
use Rattle.sail.specs.Geometry.{bits2}
use Rattle.sail.specs.Pool.{SecondChunk}
use Rattle.sail.specs.Walk.{cell_place}
use Rattle.sail.specs.declared.geometry.Geometry.{Geometry}
use Rattle.sail_counts.specs.Tick.{step, ticked, left_at, second_at, Ticks, Ticked, Tickable, CountsMoved}

-- one count, up or down
pub step-up : (up : Bool) (n : ℕ) → up ≡ true → n + 1 ≡ step up n
step-up up n e = rw e (omega arith)

pub step_down : (up : Bool) (n : ℕ) → up ≡ false → n - 1 ≡ step up n
step_down up n e = rw e

-- a step that is gone, and one that is not
module _ (longer up : Bool) (q : ℕ) (counts : List ℕ) where
  pub tick-on : (n : ℕ) → longer ≡ true → n ≡ step up (get_or counts q 0) → Ticked longer up q counts (set counts q n) n
  unfolding ticked left_at
  tick-on n h e = record { now = rw (h, e); is_left = rw (h, e) }

  pub tick-off : longer ≡ false → Ticked longer up q counts counts 1
  unfolding ticked left_at
  tick-off h = record { now = rw h; is_left = rw h }

-- the first cell that leads on
pub first-named : (g : Geometry) (a len : ℕ) (first long1 long2 : List ℕ) (up : Bool) (i : ℕ) → i ≡ slot g.p1 a → Tickable g a len first long1 long2 up
    → (v : ℕ) → v ≡ get_or first i 0 → v < 65536 → SecondChunk g v
first-named g a len first long1 long2 up i e w v f l = record { valid = w.valid; one = rw (f, e) w.some; few = omega arith }

-- both levels
module _ (g : Geometry) (a len : ℕ) (first long1 long2 : List ℕ) (up : Bool) (l i v q : ℕ)
    (is-len : l ≡ len) (is-slot : i ≡ slot g.p1 a) (is-cell : v ≡ get_or first i 0) (is-place : q ≡ cell_place (bits2 g) v (slot g.p2 a)) where
  here : q ≡ second_at g first a
  here = is-place ∙ rw (is-cell, is-slot)

  pub ticks-one : Tickable g a len first long1 long2 up → Ticks (ltb g.p1 l) up i long1
  ticks-one w = rw (is-len, is-slot) w.ticks1

  pub ticks-two : Tickable g a len first long1 long2 up → Ticks (ltb g.p2 l) up q long2
  ticks-two w = rw (is-len, here) w.ticks2

  pub moved : (long1' long2' : List ℕ) (x y : ℕ) → Ticked (ltb g.p1 l) up i long1 long1' x → Ticked (ltb g.p2 l) up q long2 long2' y
      → CountsMoved g a len first long1 long2 up long1' long2' (record { first = x; second = y })
  moved long1' long2' x y t u = record { one = rw (is-len, is-slot) at t; two = rw (is-len, here) at u }
