-- The whole test: what it goes through, and what it answers.
use Rattle.std.specs.Prelude.{◌≡◌, Bool, true, List, [], ◌∷◌, ℕ, length}
use Rattle.bits.specs.Tab.{Tells}
use Rattle.routes.specs.declared.Route.{Route}
use Rattle.chain.specs.List.{ChainedFront}
use Rattle.plan_test.specs.Part.{Right}
use Rattle.sail.specs.Geometry.{bits2, bits3}
use Rattle.sail_counts.specs.Counted.{Counts}
use Rattle.sail.specs.Lent.{Lent, Cells}
use Rattle.sail.specs.Sound.{Sound}
use Rattle.sail.specs.declared.geometry.Geometry.{Geometry}
use Rattle.sail.specs.declared.table.Table.{Table}
use Rattle.sail_theory.specs.SoundTest.{sound?}
use Rattle.sail_cells_test.specs.Pool.{OwnedPool, FreeAll}

-- the first cells as one chunk, whose owner is 1
abbrev pub root_owner : List ℕ
root_owner = 1 ∷ []

-- the three levels, as the test goes through them: live cells alone
pub record Passed (rs : List Route) (g : Geometry) (l : Cells) : Type 0 where
  pub cells1 : Right rs g.p1 0 l.first l.own2 1 (length l.first)
  pub pool2 : OwnedPool rs g.p2 (bits2 g) root_owner g.p1 l.first l.own2 l.second l.own3
  pub pool3 : OwnedPool rs 32 (bits3 g) l.own2 (bits2 g) l.second l.own3 l.third []

-- and the free chunks of both pools
pub record PassedAll (rs : List Route) (g : Geometry) (l : Cells) : Type 0 where
  pub live : Passed rs g l
  pub free2 : FreeAll (bits2 g) l.own2 l.second
  pub free3 : FreeAll (bits3 g) l.own3 l.third

-- as many counts as first and second cells
pub record CountsBeside (first second long1 long2 : List ℕ) : Type 0 where
  pub counts1 : length long1 ≡ length first
  pub counts2 : length long2 ≡ length second

-- the levels, and the counts of the first two
pub record PassedTable (rs : List Route) (g : Geometry) (l : Cells) (long1 long2 : List ℕ) : Type 0 where
  pub levels : PassedAll rs g l
  pub counts : Counts rs g l.own2 long1 long2

-- the answer tells whether the table is sound, and is that of the test by which the calls are defined
pub record Tried (r : Bool) (t : Table) (l : Lent) : Type 0 where
  pub tells : Tells r (Sound t l)
  pub is : r ≡ sound? t l

-- and where it is sound, the words of its routes are left with their chain at the front of the room that was lent
pub record TriedWith (r : Bool) (t : Table) (l : Lent) (ws par : List ℕ) : Type 0 where
  pub tried : Tried r t l
  pub chained : r ≡ true → ChainedFront l.list t.count ws par
