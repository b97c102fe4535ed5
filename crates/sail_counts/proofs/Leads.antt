-- From the cell of an address at a level to the place that serves the address: in the first level at once, in the second by its first cell.
use mathlib.Core.Path.{◌≡◌, ◌∙◌, ap}
use mathlib.Core.Bool.{true}
use mathlib.Core.List.{List}
use Prim.Native.Nat.{ℕ, ◌+◌, ◌*◌, ◌%◌, ◌^◌, ◌<◌}
use native.Mathlib.Omega.{arith}
use lib.ListN.{length}
use Rattle.bits.specs.Slot.{slot}
use Rattle.standing.specs.Cells.{long}
use Rattle.routes.specs.declared.Route.{Route}
use Rattle.sail.specs.Geometry.{bits2, Valid}
use Rattle.sail.specs.Level.{entry, chunks_of, level1, level2}
use Rattle.sail.specs.Sound.{Shows}
use Rattle.sail.specs.declared.geometry.Geometry.{Geometry}
use Rattle.sail_theory.proofs.places.Places.{LiveFor, top-served, below-served}
use Rattle.sail_theory.proofs.places.Pools.{shown-node, shows-fits, shows-shown}
use Rattle.sail_counts.specs.Tick.{second_at}

module _ (g : Geometry) (valid : Valid g) (rs : List Route) (first own2 : List ℕ) (cells1 : length first ≡ 2 ^ g.p1)
    (shows1 : Shows rs (level1 g) (chunks_of own2) (entry first)) (a : ℕ) (small : a < 2 ^ 32) where
  served1 : LiveFor (level1 g) a
  served1 = top-served g.p1 a (omega arith) small

  -- its first cell
  pub first-there : slot g.p1 a < length first
  first-there = rw cells1 served1.inside

  module _ (e : long rs g.p1 (slot g.p1 a) ≡ true) where
    pub second-place : second_at g first a ≡ (level2 g (chunks_of own2)).serving a
    second-place =
        let n = shows-shown rs (level1 g) (chunks_of own2) (entry first) shows1 (slot g.p1 a) served1.inside served1.used
        ∙ shown-node rs (level1 g) (chunks_of own2) (slot g.p1 a) e in
        ap (λ (x : ℕ). x * 2 ^ bits2 g + slot g.p2 a % 2 ^ bits2 g) (omega arith)

    pub second-served : LiveFor (level2 g (chunks_of own2)) a
    second-served =
        below-served rs (level1 g) (chunks_of own2) (shows-fits rs (level1 g) (chunks_of own2) (entry first) shows1) g.p2 a (omega arith) (omega arith)
        served1 e
