-- What the test asks of a table whose pools others share: its list, its live cells, its first counts, and the counts of second cells from which its chunks
-- hang. Of what lies in free chunks nothing is asked, nor of the counts of second cells that name none: these are tested for all at once.
use Rattle.std.specs.Prelude.{Bool, true, List, ◌≡◌, ℕ}
use Rattle.bits.specs.Tab.{Tells}
use Rattle.routes.specs.Record.{Listed}
use Rattle.routes.specs.declared.Route.{Route}
use Rattle.chain.specs.List.{ChainedFront}
use Rattle.sail.specs.Lent.{Lent, Cells}
use Rattle.sail.specs.Level.{whole}
use Rattle.sail.specs.Sound.{Serves, standing}
use Rattle.sail.specs.declared.geometry.Geometry.{Geometry}
use Rattle.sail.specs.declared.table.Table.{Table}
use Rattle.sail_counts_test.specs.CountsTest.{DeepCounts}
use Rattle.sail_sound.specs.TableTest.{Passed}

-- as the test goes through it
pub record PassedSeen (rs : List Route) (g : Geometry) (l : Cells) (long1 long2 : List ℕ) : Type 0 where
  pub live : Passed rs g l
  pub counts : DeepCounts rs g l.own2 long1 long2

pub record SeenRight (t : Table) (l : Lent) : Type 0 where
  pub listed : Listed l.list t.count
  pub serves : Serves (standing t l) t.geometry (whole l)
  pub counts : DeepCounts (standing t l) t.geometry l.own2 l.long1 l.long2

-- the answer, and where it is true, the words of the routes with their chain
pub record SeenWith (r : Bool) (t : Table) (l : Lent) (ws par : List ℕ) : Type 0 where
  pub tells : Tells r (SeenRight t l)
  pub chained : r ≡ true → ChainedFront l.list t.count ws par
