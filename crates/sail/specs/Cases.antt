-- Refusals 1 and 2, with which every call on a table begins, and what a lookup can say, case by case and in order, each case with all that then
-- holds. A lookup says what stands beside the case that holds (`refused-number-lookup`).
use Rattle.std.specs.Prelude.{◌⊎◌, ◌≡◌, ℕ, ◌≤◌, ◌<◌, length}
use Rattle.routes.specs.Said.{Said, refused}
use Rattle.sail.specs.Geometry.{Valid}
use Rattle.sail.specs.Lent.{Lent}
use Rattle.sail.specs.Level.{whole}
use Rattle.sail.specs.Sizes.{Sized}
use Rattle.sail.specs.Walk.{cell1, cell2, cell3, leaf_said}
use Rattle.sail.specs.Reads.{Leads}
use Rattle.sail.specs.declared.geometry.Geometry.{Geometry}
use Rattle.sail.specs.declared.table.Table.{Table}

-- 1 and 2
pub data Sizing (t : Table) (l : Lent) : ℕ → Type 0 where
  limits : (Valid t.geometry → ⊥) → Sizing t l 1
  size : Valid t.geometry → (Sized t.geometry l → ⊥) → Sizing t l 2

-- the cell v is no leaf, and "a chunk number is 0 or beyond its pool" of m chunks
pub record Stray (v m : ℕ) : Type 0 where
  pub low : v < 32768
  pub none : (v ≡ 0) ⊎ (m < v)

-- the three cells of an address's walk
module _ (t : Table) (l : Lent) (a : ℕ) where
  abbrev g : Geometry
  g = t.geometry

  abbrev pub v1 : ℕ
  v1 = cell1 g (whole l) a

  abbrev pub v2 : ℕ
  v2 = cell2 g (whole l) a

  abbrev pub v3 : ℕ
  v3 = cell3 g (whole l) a

  abbrev many2 : ℕ
  many2 = length l.own2

  abbrev many3 : ℕ
  many3 = length l.own3

  -- lookup: 1, 2, 5; a leaf says its hop and how many cells were read
  pub data Lookup : Said → Type 0 where
    sizing : (n : ℕ) → Sizing t l n → Lookup (refused n)
    first_leaf : Sized g l → 32768 ≤ v1 → Lookup (leaf_said 1 v1)
    first_stray : Sized g l → Stray v1 many2 → Lookup (refused 5)
    second_leaf : Sized g l → Leads v1 many2 → 32768 ≤ v2 → Lookup (leaf_said 2 v2)
    second_stray : Sized g l → Leads v1 many2 → Stray v2 many3 → Lookup (refused 5)
    third_is_leaf : Sized g l → Leads v1 many2 → Leads v2 many3 → 32768 ≤ v3 → Lookup (leaf_said 3 v3)
    third_no_leaf : Sized g l → Leads v1 many2 → Leads v2 many3 → v3 < 32768 → Lookup (refused 5)
