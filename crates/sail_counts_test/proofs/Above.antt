-- The cell of an address is in a chunk that a cell above names: in the first level in the one chunk there is, in the second by its first cell.
use mathlib.Core.Path.{◌≡◌, sym}
use mathlib.Core.Bool.{true}
use mathlib.Core.List.{List}
use Prim.Native.Nat.{ℕ, ◌/◌, ◌^◌, ◌≤◌, ◌<◌}
use native.Mathlib.Nat.{div-eq_of_lt, mod-eq_of_lt}
use native.Mathlib.Omega.{arith}
use lib.ListN.{get_or, length}
use Rattle.bits.specs.Slot.{slot}
use Rattle.bits.proofs.Slots.{slot_lt}
use Rattle.standing.specs.Cells.{long}
use Rattle.standing.proofs.TwoLevels.{slot-down}
use Rattle.routes.specs.declared.Route.{Route}
use Rattle.sail.specs.Geometry.{bits2, Valid}
use Rattle.sail.specs.Level.{Level, entry, chunks_of, top, level1, level2}
use Rattle.sail.specs.Sound.{Shows}
use Rattle.sail.specs.declared.geometry.Geometry.{Geometry}
use Rattle.sail_theory.proofs.places.Places.{LiveFor, top-served}
use Rattle.sail_counts.proofs.Leads.{first-there, second-place, second-served}
use Rattle.sail_counts_test.specs.CountsTest.{place_in, root_cell}

-- the address's cell is in a chunk that a cell of `above` names, at the place that serves the address
pub record NamedAbove (v : Level) (d : ℕ) (above : List ℕ) (a : ℕ) : Type 0 where
  pub there : slot v.bits a / 2 ^ d < length above
  pub some : 1 ≤ get_or above (slot v.bits a / 2 ^ d) 0
  pub is : place_in d above (slot v.bits a) ≡ v.serving a
  pub served : LiveFor v a

pub first-leads : (p a : ℕ) → p ≤ 32 → a < 2 ^ 32 → NamedAbove (top p) p root_cell a
first-leads p a h s =
    let l = slot_lt p a h s in
    let z : slot p a / 2 ^ p ≡ 0 = div-eq_of_lt l in
    record {
      there = rw z (omega arith);
      some = rw z (omega arith);
      is = rw (z, mod-eq_of_lt l) (omega arith);
      served = top-served p a h s;
    }

pub second-leads : (g : Geometry) → Valid g → (rs : List Route) (first own2 : List ℕ) → length first ≡ 2 ^ g.p1
    → Shows rs (level1 g) (chunks_of own2) (entry first) → (a : ℕ) → a < 2 ^ 32 → long rs g.p1 (slot g.p1 a) ≡ true
    → NamedAbove (level2 g (chunks_of own2)) (bits2 g) first a
second-leads g valid rs first own2 cells1 shows1 a small e =
    let up : slot g.p2 a / 2 ^ bits2 g ≡ slot g.p1 a = sym (slot-down g.p1 g.p2 a (omega arith) (omega arith)) in
    let served : LiveFor (level1 g) a = top-served g.p1 a (omega arith) small in
    record {
      there = rw up (first-there g valid rs first own2 cells1 shows1 a small);
      some = rw up (shows1.node (slot g.p1 a) served.inside served.used e).one;
      is = rw up (second-place g valid rs first own2 cells1 shows1 a small e);
      served = second-served g valid rs first own2 cells1 shows1 a small e;
    }
