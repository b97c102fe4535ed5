-- Cells and owners carry no marks: routes that differ in marks alone have the same ones. Both are made of what routes say of a cell.
use mathlib.Core.Path.{◌≡◌, refl, ap, ap₂}
use mathlib.Core.Bool.{Bool, cond}
use mathlib.Core.List.{List, [], ◌∷◌, map}
use Prim.Native.Nat.{ℕ, suc, ◌+◌}
use Rattle.routes.specs.Route.{plain}
use Rattle.routes.specs.declared.Route.{Route}
use Rattle.standing.proofs.Marks.{long-plain, best-plain}
use Rattle.sail.specs.Level.{Level, Chunks, chunk_for, chunks_of, no_chunks, level1, level2, level3}
use Rattle.sail.specs.declared.geometry.Geometry.{Geometry}
use Rattle.sail_theory.specs.Render.{shown, block, pool, rendered}
use Rattle.sail_theory.specs.Calls.{Owners, open_at, opened, owners_after}
use Rattle.sail_theory.specs.Facts.{SameCells}

module _ (rs : List Route) (v : Level) (k : Chunks) where
  shown-plain : (q : ℕ) → shown (map plain rs) v k q ≡ shown rs v k q
  unfolding shown
  shown-plain q =
      ap₂ (λ (b : Bool) (h : ℕ). cond b (suc (chunk_for k (suc q))) (32768 + h))
      (long-plain rs v.bits (v.at q)) (best-plain rs v.bits (v.at q))

  pool-plain : pool (map plain rs) v k ≡ pool rs v k
  pool-plain = ap (block v.places v.live) (λ i q. shown-plain q i)

pub cells_unmarked : (g : Geometry) (room : ℕ) (rs : List Route) (own2 own3 : List ℕ)
    → SameCells (rendered g room (map plain rs) own2 own3) (rendered g room rs own2 own3)
cells_unmarked g room rs own2 own3 = record {
  first = pool-plain rs (level1 g) (chunks_of own2);
  second = pool-plain rs (level2 g (chunks_of own2)) (chunks_of own3);
  third = pool-plain rs (level3 g (chunks_of own2) (chunks_of own3)) no_chunks;
}

-- the owners after each of the routes is announced
pub owners-unmarked : (g : Geometry) (o : Owners) (rs : List Route) → owners_after g o (map plain rs) ≡ owners_after g o rs
unfolding owners_after open_at
owners-unmarked g o [] = refl
owners-unmarked g o (r ∷ rs) = owners-unmarked g (opened g o r) rs
