-- Where chunks hang, and which cells meet a prefix.
use mathlib.Core.Path.{◌≡◌, refl, sym, ap, ◌∙◌}
use mathlib.Core.Bool.{true, cond}
use mathlib.Core.List.{List}
use Prim.Native.Nat.{ℕ, zero, suc, ◌+◌, ◌-◌, ◌*◌, ◌/◌, ◌^◌, ◌≤◌, ◌<◌}
use native.Mathlib.Nat.{mul-le-mul_right, mul_assoc, div-mul-le_self, lt-div-mul-add, div-eq_of_lt-le, add-mul, one-mul}
use native.Mathlib.Decide.{dec_le}
use native.Mathlib.Omega.{arith}
use lib.Dec.{eqb, leb, ltb}
use lib.ListN.{get_or}
use lib.Pow.{pow-add, pow_pos, shl-shr}
use borrow.Author.Tests.{leb-true, ltb-true, eqb-true, le-leb, lt-leb, lt-ltb, eq-eqb}
use Rattle.bits.specs.Slot.{slot}
use Rattle.bits.proofs.Slots.{slot_lt, cut-is}
use Rattle.bits.proofs.Bools.{both, and_split, same}
use Rattle.routes.specs.Route.{Prefix}
use Rattle.buffers.specs.Fill.{between}
use Rattle.sail.specs.Level.{itself, part_of, entry}
use Rattle.sail.specs.Pool.{Numbered}
use Rattle.sail.specs.Walk.{cell_place}
use Rattle.sail_paint.specs.Stale.{meets}
use Rattle.sail_paint.specs.Paint.{stands_for, Above}

-- the cell that a place stands for
pub stands-itself : (e : ℕ) (up : List ℕ) (q : ℕ) → e ≡ 0 → q ≡ stands_for e up q
unfolding stands_for
stands-itself zero up q h = refl
stands-itself (suc e) up q h = absurd (omega arith)

pub stands-part : (e : ℕ) (up : List ℕ) (q : ℕ) → (e ≡ 0 → ⊥) → stands_for e up q ≡ part_of (entry up) e itself q
unfolding stands_for
stands-part zero up q h = absurd (h refl)
stands-part (suc e) up q h = refl

-- its owner leads to it
module _ (up : List ℕ) (e q v : ℕ) (some : e ≡ 0 → ⊥) (is : (v ≡ get_or up (q / 2 ^ e) 0) × (v < 4294967296)) where
  pub owner-numbered : Above up e q → Numbered v e
  owner-numbered h = record { one = omega (arith, is.0, h.owned (omega (arith, some))); few = omega (arith, is.1); size = omega (arith, h.small) }

  pub stands-is : (r : ℕ) → r ≡ cell_place e v q → r ≡ stands_for e up q
  stands-is r f = f ∙ ap (λ (x : ℕ). cell_place e x q) is.0 ∙ sym (stands-part e up q some)

-- the code's test
pub meets_under : (a len p i : ℕ) → len ≤ p → eqb (i / 2 ^ (p - len)) (a / 2 ^ (32 - len)) ≡ meets a len p i
unfolding meets
meets_under a len p i h = rw (le-leb len p h)

pub meets-holds : (a len p i : ℕ) → p < len → eqb (a / 2 ^ (32 - p)) i ≡ meets a len p i
unfolding meets
meets-holds a len p i h = rw (lt-leb len p h)

-- the numbers between, as facts
pub between-parts : (from to q : ℕ) → between from to q ≡ true → (from ≤ q) × (q < to)
between-parts from to q e = let s = and_split (leb from q) (ltb q to) e in (leb-true from q s.0, ltb-true q to s.1)

parts-between : (from to q : ℕ) → from ≤ q → q < to → between from to q ≡ true
parts-between from to q a b = both (le-leb from q a) (lt-ltb q to b)

-- the numbers whose high digits are c: a block of 2 ^ k
pub block-is : (c k q : ℕ) → between (c * 2 ^ k) (c * 2 ^ k + 2 ^ k) q ≡ eqb (q / 2 ^ k) c
block-is c k q =
    same (between (c * 2 ^ k) (c * 2 ^ k + 2 ^ k) q) (eqb (q / 2 ^ k) c)
    (λ t. let s = between-parts _ _ q t in eq-eqb (q / 2 ^ k) c (div-eq_of_lt-le {k = c} (2 ^ k) {m = q} s.0 (rw (add-mul, one-mul) s.1)))
    (λ t.
    let e : q / 2 ^ k * 2 ^ k ≡ c * 2 ^ k = ap (λ (x : ℕ). x * 2 ^ k) (eqb-true (q / 2 ^ k) c t) in
    let l = div-mul-le_self q (2 ^ k) in
    let u = lt-div-mul-add {a = q} (pow_pos k) in
    parts-between _ _ q (omega arith) (omega arith))

-- a block of one
one-is : (c q : ℕ) → between c (c + 1) q ≡ eqb c q
one-is c q =
    same (between c (c + 1) q) (eqb c q)
    (λ t. let s = between-parts c (c + 1) q t in eq-eqb c q (omega (arith, s.0, s.1)))
    (λ t. let e = eqb-true c q t in parts-between c (c + 1) q (omega arith) (omega arith))

-- the cells of a level that meet a prefix are one range
module _ (a len p : ℕ) (ok : Prefix a len) (deep : p ≤ 32) where
  first-is : len ≤ p → slot p a ≡ slot len a * 2 ^ (p - len)
  first-is h =
      let e : a ≡ slot len a * 2 ^ (32 - len) = sym ok.clear ∙ cut-is len a in
      let f : slot len a * 2 ^ (32 - len) ≡ slot len a * 2 ^ (p - len) * 2 ^ (32 - p) =
      ap (λ (x : ℕ). slot len a * x) (ap (λ (x : ℕ). 2 ^ x) (omega arith) ∙ pow-add 2 (p - len) (32 - p)) ∙ sym (mul_assoc _ _ _) in
      ap (λ (x : ℕ). x / 2 ^ (32 - p)) (e ∙ f) ∙ shl-shr _ (32 - p)

  pub range-is : (q : ℕ) → between (slot p a) (slot p a + 2 ^ (p - len)) q ≡ meets a len p q
  unfolding meets
  range-is q = go (dec_le len p)
    where
      go : Dec (len ≤ p) → between (slot p a) (slot p a + 2 ^ (p - len)) q ≡ cond (leb len p) (eqb (q / 2 ^ (p - len)) (slot len a)) (eqb (slot p a) q)
      go (yes h) = rw (le-leb len p h, first-is h) (block-is (slot len a) (p - len) q)
      go (no h) =
          let z : p - len ≡ 0 = omega arith in
          rw (lt-leb len p (omega arith), z) (one-is (slot p a) q)

  -- within the level
  pub range-fits : slot p a + 2 ^ (p - len) ≤ 2 ^ p
  range-fits = go (dec_le len p)
    where
      go : Dec (len ≤ p) → slot p a + 2 ^ (p - len) ≤ 2 ^ p
      go (yes h) =
          let s = slot_lt len a ok.len_ok ok.addr_ok in
          let m = mul-le-mul_right (2 ^ (p - len)) (let l : slot len a + 1 ≤ 2 ^ len = omega arith in l) in
          let e : 2 ^ len * 2 ^ (p - len) ≡ 2 ^ p = sym (pow-add 2 len (p - len)) ∙ ap (λ (x : ℕ). 2 ^ x) (omega arith) in
          let f : (slot len a + 1) * 2 ^ (p - len) ≡ slot len a * 2 ^ (p - len) + 2 ^ (p - len) = add-mul _ 1 _ ∙ ap
          (λ (x : ℕ). slot len a * 2 ^ (p - len) + x) (one-mul _) in
          omega (arith, first-is h)
      go (no h) =
          let z : p - len ≡ 0 = omega arith in
          let s = slot_lt p a deep ok.addr_ok in
          rw z (omega arith)
