-- In a sound table as many chunks of either pool are in use as its routes need: so 7 and 8 are found by the chunks in use.
use mathlib.Core.Path.{◌≡◌}
use mathlib.Core.List.{List}
use Prim.Native.Nat.{ℕ, ◌≤◌}
use native.Mathlib.Omega.{arith}
use Rattle.routes.specs.Route.{Good}
use Rattle.standing.specs.Cells.{need}
use Rattle.routes.specs.declared.Route.{Route}
use Rattle.sail.specs.Lent.{Lent}
use Rattle.sail.specs.Sound.{Sound, standing, used}
use Rattle.sail.specs.declared.table.Table.{Table}
use Rattle.sail.proofs.Sounds.{standing-good, chunks-need}

-- as many chunks are in use as the routes need
pub record Enough (rs : List Route) (p : ℕ) (own : List ℕ) : Type 0 where
  pub good : Good rs
  pub small : p ≤ 32
  pub counted : used own ≡ need rs p

-- in a sound table: the second chunks by p1, and the third by p2
module _ (t : Table) (l : Lent) (s : Sound t l) where
  pub seven : Enough (standing t l) t.geometry.p1 l.own2
  seven = let v = s.sized.valid in record { good = standing-good t l s; small = omega arith; counted = (chunks-need t l s).0 }

  pub eight : Enough (standing t l) t.geometry.p2 l.own3
  eight = let v = s.sized.valid in record { good = standing-good t l s; small = omega arith; counted = (chunks-need t l s).1 }
