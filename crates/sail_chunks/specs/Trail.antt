-- What the cells of an address tell where the first two levels of a table serve the routes.
use Rattle.std.specs.Prelude.{true, not, List, ◌≡◌, ℕ, suc, ◌*◌, ◌^◌, ◌≤◌, leb, length}
use Rattle.bits.specs.Slot.{slot}
use Rattle.standing.specs.Cells.{long}
use Rattle.routes.specs.declared.Route.{Route}
use Rattle.sail.specs.Geometry.{bits2, Valid}
use Rattle.sail.specs.declared.geometry.Geometry.{Geometry}
use Rattle.sail.specs.Level.{Level, entry, chunks_of, level1, level2}
use Rattle.sail.specs.Sound.{Shows}
use Rattle.sail_theory.specs.Render.{find}

-- The cell x that an address has at a level is a leaf exactly where no longer route has the address's bits. Where one has, x is the number of
-- the chunk that hangs from the place that serves the address.
pub record CellTells (rs : List Route) (v : Level) (own : List ℕ) (a x : ℕ) : Type 0 where
  pub leaf : leb 32768 x ≡ not (long rs v.bits (slot v.bits a))
  pub node : long rs v.bits (slot v.bits a) ≡ true → x ≡ suc (find own (suc (v.serving a)))

-- The first two levels serve these routes. What is lent beside them is of no matter, nor what free chunks hold.
pub record Serving (g : Geometry) (rs : List Route) (first second own2 own3 : List ℕ) : Type 0 where
  pub valid : Valid g
  pub cells1 : length first ≡ 2 ^ g.p1
  pub few2 : length own2 ≤ 4096
  pub cells2 : length second ≡ length own2 * 2 ^ bits2 g
  pub few3 : length own3 ≤ 4096
  pub shows1 : Shows rs (level1 g) (chunks_of own2) (entry first)
  pub shows2 : Shows rs (level2 g (chunks_of own2)) (chunks_of own3) (entry second)

-- the first and the second cell of the address a
pub record Trailed (g : Geometry) (rs : List Route) (own2 own3 : List ℕ) (a x1 x2 : ℕ) : Type 0 where
  pub first : CellTells rs (level1 g) own2 a x1
  pub second : CellTells rs (level2 g (chunks_of own2)) own3 a x2
