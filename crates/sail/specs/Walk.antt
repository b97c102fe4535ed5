-- What lookup says, of any state, arrays and address, damaged tables too; and the counts on its walk.
use Rattle.std.specs.Prelude.{Bool, false, ◌&&◌, cond, List, [], ◌∷◌, ℕ, ◌+◌, ◌-◌, ◌*◌, ◌%◌, ◌^◌, eqb, leb, length, get_or}
use Rattle.bits.specs.Slot.{slot}
use Rattle.routes.specs.Said.{Said, refused, hop_after, no_route_after}
use Rattle.standing.specs.Served.{hop_said}
use Rattle.sail.specs.Geometry.{bits2, bits3}
use Rattle.sail.specs.Lent.{Lent}
use Rattle.sail.specs.Level.{View, whole}
use Rattle.sail.specs.Sizes.{sizes_fault}
use Rattle.sail.specs.declared.geometry.Geometry.{Geometry}
use Rattle.sail.specs.declared.table.Table.{Table}

-- "Chunk c begins at cell (c - 1) times the chunk size": the place, in a pool of chunks of 2 ^ d cells, of the cell in chunk c that
-- serves cell i of its level
abbrev pub cell_place : ℕ → ℕ → ℕ → ℕ
cell_place d c i = (c - 1) * 2 ^ d + i % 2 ^ d

-- the cells that the walk for the address a may read, and where the second and the third stand in their pools
module _ (g : Geometry) (t : View) (a : ℕ) where
  abbrev pub cell1 : ℕ
  cell1 = t.first (slot g.p1 a)

  abbrev pub place2 : ℕ
  place2 = cell_place (bits2 g) cell1 (slot g.p2 a)

  abbrev pub cell2 : ℕ
  cell2 = t.second place2

  abbrev pub place3 : ℕ
  place3 = cell_place (bits3 g) cell2 a

  abbrev pub cell3 : ℕ
  cell3 = t.third place3

-- the cell at which the walk ends
unfoldable pub last_cell : Geometry → View → ℕ → ℕ
last_cell g t a =
    cond (leb 32768 (cell1 g t a)) (cell1 g t a)
    (cond (leb 32768 (cell2 g t a)) (cell2 g t a) (cell3 g t a))

-- "counts on every address's walk": the count at the first cell that is read, and at the second, where the first is no leaf
unfoldable pub walk_counts : Geometry → Lent → ℕ → List ℕ
walk_counts g l a =
    get_or l.long1 (slot g.p1 a) 0
    ∷ cond (leb 32768 (cell1 g (whole l) a)) [] (get_or l.long2 (place2 g (whole l) a) 0 ∷ [])

-- "A cell with its top bit set is a leaf: the low 15 bits are the hop, 0 for no route"
abbrev pub leaf_said : ℕ → ℕ → Said
leaf_said n v = hop_said n (v - 32768)

-- The n-th cell read holds v. A leaf ends the walk, a chunk number that opens leads on, and any other is refused
unfoldable pub step_said : ℕ → (ℕ → Bool) → ℕ → Said → Said
step_said n opens v on = cond (leb 32768 v) (leaf_said n v) (cond (opens v) on (refused 5))

-- the number of one of m chunks
abbrev pub one_of : ℕ → ℕ → Bool
one_of m v = leb 1 v && leb v m

-- a third cell leads nowhere
abbrev pub shut : ℕ → Bool
shut v = false

unfoldable pub walk_said : Geometry → (ℕ → Bool) → (ℕ → Bool) → View → ℕ → Said
walk_said g opens2 opens3 t a =
    step_said 1 opens2 (cell1 g t a)
    (step_said 2 opens3 (cell2 g t a)
    (step_said 3 shut (cell3 g t a) (refused 5)))

-- the walk in what is lent: every chunk of a pool opens
unfoldable pub found_said : Geometry → Lent → ℕ → Said
found_said g l a = walk_said g (one_of (length l.own2)) (one_of (length l.own3)) (whole l) a

-- 1, 2, then the walk's own answer
unfoldable pub lookup_said : Table → Lent → ℕ → Said
lookup_said t l a =
    cond (eqb (sizes_fault t.geometry l) 0)
    (found_said t.geometry l a)
    (refused (sizes_fault t.geometry l))
