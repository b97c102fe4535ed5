-- The highest address of a route is the last that it covers: the addresses that it covers are those with its first bits, and their other bits
-- go from all zeros to all ones.
use mathlib.Core.Path.{◌≡◌, sym, ap, ◌∙◌}
use Prim.Native.Nat.{ℕ, ◌+◌, ◌-◌, ◌*◌, ◌^◌, ◌≤◌, ◌<◌}
use native.Mathlib.Nat.{add-mul, one-mul, mul-le-mul_right}
use native.Mathlib.Omega.{arith}
use lib.Pow.{pow_pos, pow_mono, pow-add}
use borrow.Author.Tests.{le-leb, eq-eqb}
use Rattle.bits.specs.Slot.{slot, mask}
use Rattle.bits.proofs.Slots.{slot_lt, cut-is, cut-gt, cut_in, cut-slot, slot_of}
use Rattle.bits.proofs.Bools.{both}
use Rattle.routes.specs.Route.{Prefix}
use Rattle.routes.specs.declared.Route.{Route}
use Rattle.standing.proofs.Longest.{cover-parts}
use Rattle.broadcast.specs.Cast.{highest}
use Rattle.broadcast.specs.Meaning.{Highest}

-- the addresses of a prefix end within 32 bits
inside : (a l : ℕ) → Prefix a l → a + 2 ^ (32 - l) ≤ 2 ^ 32
inside a l p =
    let sum : l + (32 - l) ≡ 32 = omega (arith, p.len_ok) in
    let bits : 2 ^ l * 2 ^ (32 - l) ≡ 2 ^ 32 = sym (pow-add 2 l (32 - l)) ∙ ap (λ (n : ℕ). 2 ^ n) sum in
    let up : slot l a + 1 ≤ 2 ^ l = omega (arith, slot_lt l a p.len_ok p.addr_ok) in
    let more : (slot l a + 1) * 2 ^ (32 - l) ≤ 2 ^ l * 2 ^ (32 - l) = mul-le-mul_right (2 ^ (32 - l)) up in
    let next : (slot l a + 1) * 2 ^ (32 - l) ≡ slot l a * 2 ^ (32 - l) + 1 * 2 ^ (32 - l) = add-mul (slot l a) 1 (2 ^ (32 - l)) in
    omega (arith, bits, more, next, one-mul (2 ^ (32 - l)), cut-is l a, p.clear)

-- as the code works it out, by the mask m of the length x
module _ (r : Route) (p : Prefix r.addr r.len) (x m : ℕ) (ex : x ≡ r.len) (em : m ≡ mask x) where
  rest : (m + 2 ^ (32 - r.len) ≡ 2 ^ 32) × (1 ≤ 2 ^ (32 - r.len))
  unfolding mask
  rest =
      let e : m ≡ 2 ^ 32 - 2 ^ (32 - r.len) = em ∙ ap (λ (n : ℕ). 2 ^ 32 - 2 ^ (32 - n)) ex in
      (omega (arith, e, pow_mono {i = 32 - r.len} {j = 32} (omega arith)), pow_pos (32 - r.len))

  pub sum_fits : r.addr + (4294967295 - m) < 2 ^ 32
  sum_fits = omega (arith, rest.0, rest.1, inside r.addr r.len p)

  pub sum-highest : r.addr + (4294967295 - m) ≡ highest r
  unfolding highest
  sum-highest = omega (arith, rest.0, rest.1)

-- it is covered, and no address after it is
pub highest-last : (r : Route) → Prefix r.addr r.len → Highest r (highest r)
unfolding highest
highest-last r p =
    let some = pow_pos (32 - r.len) in
    let at = cut_in r.len r.addr (r.addr + 2 ^ (32 - r.len) - 1) p.clear (omega (arith, some)) (omega (arith, some)) in
    record {
      covered = both (le-leb r.len 32 p.len_ok) (eq-eqb _ _ (sym (slot_of r.len _ r.addr at)));
      last = λ b c.
          let e = cut-slot r.len b r.addr p.clear (sym (cover-parts 32 b r c).1) in
          omega (arith, e, cut-gt r.len b);
    }

-- so an address is the highest in this sense exactly where it is that one
pub highest-one : (r : Route) (h : ℕ) → Prefix r.addr r.len → Highest r h → highest r ≡ h
highest-one r h p w =
    let v = highest-last r p in
    omega (arith, v.last h w.covered, w.last (highest r) v.covered)
