-- What writing a table anew asks for, in two halves: pools, owners and counts wiped, and the routes of an input laid over them. The second half asks
-- nothing of what others hold in the pools, and leaves it.
use Rattle.std.specs.Prelude.{true, List, ◌≡◌, ℕ, ◌*◌, ◌/◌, ◌≤◌, ◌<◌, length, get_or, replicate}
use Rattle.routes.specs.Record.{Records}
use Rattle.sail.specs.Geometry.{bits2}
use Rattle.sail.specs.Lent.{Lent}
use Rattle.sail.specs.Sizes.{Sized}
use Rattle.sail.specs.declared.geometry.Geometry.{Geometry}
use Rattle.sail.specs.declared.table.Table.{Table}
use Rattle.sail.specs.Level.{entry, live_in, chunks_of, level1, level2}
use Rattle.sail_theory.specs.Render.{rendered, Fits, room_of}
use Rattle.sail_theory.specs.Shared.{mixed_in}
use Rattle.sail_theory.specs.Calls.{owners_after, no_owners, input_routes, lent_of}
use Rattle.sail_theory.specs.Facts.{Loadable}

-- whole good records
pub record WholeRecords (input : List ℕ) : Type 0 where
  pub whole : length input ≡ length input / 8 * 8
  pub records : Records input (length input / 8)

-- room for the input's routes, owners that fit them, and counts that are 0 in the chunks of these owners
pub record Layable (g : Geometry) (input : List ℕ) (l : Lent) : Type 0 where
  pub readable : WholeRecords input
  pub sized : Sized g l
  pub roomy : length input / 8 ≤ room_of l
  pub fits2 : Fits (input_routes input) (level1 g) (chunks_of l.own2)
  pub fits3 : Fits (input_routes input) (level2 g (chunks_of l.own2)) (chunks_of l.own3)
  pub uncounted : (q : ℕ) → q < length l.long2 → live_in (entry l.own2) (bits2 g) q ≡ true → get_or l.long2 q 0 ≡ 0

-- what is then lent: the table that the input's routes and the owners ask for, in the chunks of these owners; all other chunks are as they were
abbrev pub laid_in : Geometry → List ℕ → Lent → Lent
laid_in g input l = mixed_in g l (rendered g (room_of l) (input_routes input) l.own2 l.own3)

-- pools, owners and second counts are 0
pub record Wiped (second third own2 own3 long2 second' third' own2' own3' long2' : List ℕ) : Type 0 where
  pub cells2 : second' ≡ replicate (length second) 0
  pub cells3 : third' ≡ replicate (length third) 0
  pub none2 : own2' ≡ replicate (length own2) 0
  pub none3 : own3' ≡ replicate (length own3) 0
  pub counts2 : long2' ≡ replicate (length long2) 0

-- an input whose routes may be loaded
pub record Renewable (t : Table) (input : List ℕ) (l : Lent) : Type 0 where
  pub readable : WholeRecords input
  pub loadable : Loadable t l (input_routes input)

-- what is then lent: as the input's routes ask, with the owners of announcing them in order
abbrev pub anew : Table → Lent → List ℕ → Lent
anew t l input = lent_of t l (input_routes input) (owners_after t.geometry (no_owners l) (input_routes input))
