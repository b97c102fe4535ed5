-- What a repair can say, case by case and in document 02's order, each case with all that then holds. The cases exclude each other, and a repair
-- says what stands beside the one that holds (`refused-number-repair`, crate demands).
use Rattle.std.specs.Prelude.{List, ℕ, ◌≤◌, ◌<◌, length}
use Rattle.routes.specs.Said.{Said, accepted, refused}
use Rattle.routes.specs.declared.Route.{Route}
use Rattle.standing.specs.Cells.{need}
use Rattle.sail.specs.Cases.{Sizing}
use Rattle.sail.specs.Lent.{Lent}
use Rattle.sail.specs.Sizes.{Sized}
use Rattle.sail.specs.declared.table.Table.{Table}
use Rattle.sail_theory.specs.Facts.{Loadable}
use Rattle.repair_theory.specs.Repair.{kept_routes, changes}

-- repair: 1, 2; 7, 8 by the needs of the kept records; and else the four numbers
module _ (t : Table) (l : Lent) where
  abbrev rs : List Route
  rs = kept_routes t l

  pub data Repair : Said → Type 0 where
    sizing : (n : ℕ) → Sizing t l n → Repair (refused n)
    second : Sized t.geometry l → length l.own2 < need rs t.geometry.p1 → Repair (refused 7)
    third : Sized t.geometry l → need rs t.geometry.p1 ≤ length l.own2 → length l.own3 < need rs t.geometry.p2
        → Repair (refused 8)
    done : Loadable t l rs → Repair (accepted (changes t l))
