-- Places, level after level: each prefix of at most 16 bits has one, each place but the last has a prefix, and a bit of the maps is set exactly
-- where its cell holds a hop.
use mathlib.Core.Path.{◌≡◌, refl, sym, ap, ◌∙◌}
use mathlib.Core.Logic.{◌⊎◌, inl, inr}
use mathlib.Core.Bool.{Bool, true, false}
use mathlib.Core.List.{List}
use Prim.Native.Nat.{ℕ, zero, suc, ◌+◌, ◌-◌, ◌*◌, ◌/◌, ◌%◌, ◌^◌, ◌≤◌, ◌<◌}
use native.Mathlib.Nat.{pow-suc, eq-or-lt_of_le}
use native.Mathlib.Omega.{arith}
use lib.Dec.{eqb, ltb}
use lib.Pow.{pow_pos, pow_mono}
use lib.ListN.{get_or}
use borrow.Author.Tests.{ltb-false, lt-ltb, le-ltb}
use Rattle.bits.specs.Slot.{slot}
use Rattle.bits.specs.Bit.{bit_at, packed_bits}
use Rattle.bits.specs.Count.{bit}
use Rattle.bits.specs.Search.{first_of}
use Rattle.bits.proofs.Slots.{slot_lt, shl_one}
use Rattle.bits.proofs.Searches.{first_of-is, first_of-le, first_of-before}
use Rattle.bits.proofs.Tabs.{get_d_tabulate}
use Rattle.bits.proofs.Packed.{packed-bit}
use Rattle.basic.specs.Maps.{map_place, level_of, prefix_of, is_set_at, hop_there, map_bits}
use Rattle.std.specs.Prelude.{Some, None}
use Rattle.basic.specs.Walk.{mapped, as_met}

twice : (l : ℕ) → 2 ^ suc l ≡ 2 ^ l + 2 ^ l
twice l = pow-suc 2 l ∙ omega arith

-- a prefix's place, and back
module _ (l v : ℕ) (h : l ≤ 16) (u : v < 2 ^ l) where
  pub place-bound : map_place l v < 131071
  unfolding map_place
  place-bound = omega (arith, pow_mono {i = l} {j = 16} h, pow_pos l)

  pub level-place : level_of (map_place l v) ≡ l
  unfolding level_of map_place
  level-place =
      first_of-is (λ m. ltb (2 ^ l - 1 + v) (2 ^ suc m - 1)) 17 l (omega arith)
      (λ m k. le-ltb (2 ^ l - 1 + v) (2 ^ suc m - 1) (omega (arith, pow_mono {i = suc m} {j = l} k)))
      (λ _. lt-ltb (2 ^ l - 1 + v) (2 ^ suc l - 1) (omega (arith, twice l, pow_pos l)))

  off-start : map_place l v - (2 ^ l - 1) ≡ v
  unfolding map_place
  off-start = omega arith

  pub prefix-place : prefix_of (map_place l v) ≡ v
  unfolding prefix_of
  prefix-place = ap (λ (m : ℕ). map_place l v - (2 ^ m - 1)) level-place ∙ off-start

-- a place's prefix, and back
module _ (i : ℕ) (h : i < 131071) where
  pub level-le : level_of i ≤ 16
  unfolding level_of
  level-le = go (eq-or-lt_of_le (first_of-le (λ l. ltb i (2 ^ suc l - 1)) 17))
    where
      go : (first_of (λ l. ltb i (2 ^ suc l - 1)) 17 ≡ 17) ⊎ (first_of (λ l. ltb i (2 ^ suc l - 1)) 17 < 17) → first_of (λ l. ltb i (2 ^ suc l - 1)) 17 ≤ 16
      go (inl e) = absurd (omega (arith, ltb-false i 131071 (first_of-before (λ l. ltb i (2 ^ suc l - 1)) 17 16 (rw e (omega arith)))))
      go (inr l) = omega arith

  starts : (l : ℕ) → level_of i ≡ l → 2 ^ l - 1 ≤ i
  unfolding level_of
  starts zero e = omega arith
  starts (suc l) e = ltb-false i (2 ^ suc l - 1) (first_of-before (λ l. ltb i (2 ^ suc l - 1)) 17 l (rw e (omega arith)))

  pub place-prefix : map_place (level_of i) (prefix_of i) ≡ i
  unfolding map_place prefix_of
  place-prefix = omega (arith, starts (level_of i) refl)

-- the code's place
pub ones-fit : (l : ℕ) → l ≤ 16 → 1 ≤ 1 * 2 ^ l % 2 ^ 64
ones-fit l h = rw (shl_one 64 l (omega arith)) (pow_pos l)

module _ (l a x : ℕ) (h : l ≤ 16) (u : a < 2 ^ 32) (e : x ≡ slot l a) where
  within : x < 2 ^ l
  within = rw e (slot_lt l a (omega arith) u)

  is-place : 1 * 2 ^ l % 2 ^ 64 - 1 + x ≡ map_place l (slot l a)
  unfolding map_place
  is-place = rw (shl_one 64 l (omega arith), e)

  pub place-told : (1 * 2 ^ l % 2 ^ 64 - 1 + x ≡ map_place l (slot l a)) × (1 * 2 ^ l % 2 ^ 64 - 1 + x < 131071)
  place-told = (is-place, rw is-place (place-bound l (slot l a) h (rw e at within)))

-- the code's bit and cell
pub set_told : (bs : List ℕ) (i w k : ℕ) (b : Bool) → b ≡ eqb (bit_at w k) 1 → w ≡ get_or bs (i / 8) 0 → k ≡ i % 8 → b ≡ is_set_at bs i
set_told bs i w k b e p q = rw (e, p, q)

module _ (bs cs : List ℕ) (a l i : ℕ) (b : Bool) (e : i ≡ map_place l (slot l a)) (t : b ≡ is_set_at bs i) where
  pub mapped-set : b ≡ true → as_met (Some (get_or cs i 0)) ≡ mapped bs cs a l
  unfolding mapped
  mapped-set s =
      let set : is_set_at bs (map_place l (slot l a)) ≡ true = rw (← e) (sym t ∙ s) in
      rw (set, e)

  pub mapped-clear : b ≡ false → as_met None ≡ mapped bs cs a l
  unfolding mapped
  mapped-clear s =
      let clear : is_set_at bs (map_place l (slot l a)) ≡ false = rw (← e) (sym t ∙ s) in
      rw clear

-- a bit of the maps is set exactly where its cell holds a hop
pub set_is : (cs : List ℕ) (i : ℕ) → i < 131072 → is_set_at (map_bits cs) i ≡ hop_there cs i
unfolding map_bits
set_is cs i h =
    let byte = get_d_tabulate 16384 (λ j. packed_bits (λ b. hop_there cs (8 * j + b)) 8) (i / 8) 0 (omega arith) in
    let there : 8 * (i / 8) + i % 8 ≡ i = omega arith in
    ap (λ (w : ℕ). eqb (bit_at w (i % 8)) 1) byte
    ∙ ap (λ (w : ℕ). eqb w 1) (packed-bit (λ b. hop_there cs (8 * (i / 8) + b)) 8 (i % 8) (omega arith))
    ∙ one (hop_there cs (8 * (i / 8) + i % 8))
    ∙ ap (hop_there cs) there
  where
    one : (b : Bool) → eqb (bit b) 1 ≡ b
    one true = refl
    one false = refl
