-- Laws of geometries.
use mathlib.Core.Path.{◌≡◌}
use mathlib.Core.Bool.{true, false, ◌&&◌, false≢true}
use Prim.Native.Nat.{ℕ, ◌*◌, ◌%◌, ◌^◌, ◌≤◌, ◌<◌}
use native.Mathlib.Omega.{arith}
use lib.Dec.{leb}
use lib.Pow.{pow_pos, pow_mono}
use borrow.Author.Tests.{leb-true, le-leb}
use Rattle.bits.specs.Tab.{Tells}
use Rattle.bits.proofs.Slots.{shl_one}
use Rattle.bits.proofs.Bools.{both, and_split}
use Rattle.sail.specs.Geometry.{bits2, valid_geo, Valid, Power}
use Rattle.sail.specs.declared.geometry.Geometry.{Geometry}

-- 1 shifted by k is 2 ^ k
pub power : (k j : ℕ) → k ≤ j → j < 64 → Power (1 * 2 ^ k % 2 ^ 64) k (2 ^ j)
power k j h l =
    let e : 1 * 2 ^ k % 2 ^ 64 ≡ 2 ^ k = shl_one 64 k (omega arith) in
    record { is = e; some = omega (arith, pow_pos k); few = omega (arith, pow_mono h) }

-- a refusal where the facts cannot hold
pub not-told : {P : Type 0} → (P → ⊥) → Tells false P
not-told h = ((λ e. absurd (false≢true e)), (λ p. absurd (h p)))

-- the test of a geometry and its facts say the same
pub valid-is : (g : Geometry) → Tells (valid_geo g) (Valid g)
unfolding valid_geo
valid-is g = (
  facts,
  λ v. both (le-leb _ _ v.p1_low)
      (both (le-leb _ _ v.p1_high) (both (le-leb _ _ v.p2_low) (both (le-leb _ _ v.p2_high) (le-leb _ _ v.near)))),
)
  where
    facts : (leb 12 g.p1 && (leb g.p1 16 && (leb 22 g.p2 && (leb g.p2 26 && leb (bits2 g) 10)))) ≡ true → Valid g
    facts e =
        let a = and_split (leb 12 g.p1) _ e in
        let b = and_split (leb g.p1 16) _ a.1 in
        let c = and_split (leb 22 g.p2) _ b.1 in
        let d = and_split (leb g.p2 26) _ c.1 in
        record {
          p1_low = leb-true 12 g.p1 a.0;
          p1_high = leb-true g.p1 16 b.0;
          p2_low = leb-true 22 g.p2 c.0;
          p2_high = leb-true g.p2 26 d.0;
          near = leb-true (bits2 g) 10 d.1;
        }
