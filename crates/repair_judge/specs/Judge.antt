-- What judging a repair asks for, and what it tells: why it is refused, and what is kept.
use Rattle.std.specs.Prelude.{List, ◌≡◌, ℕ, ◌*◌, ◌/◌, ◌≤◌, min, length, take, Option, Some, None, Result, Ok, Err}
use Rattle.refusals.specs.Numbers.{number_of}
use Rattle.routes.specs.Record.{written}
use Rattle.routes.specs.Said.{refused}
use Rattle.sail.specs.Geometry.{Valid}
use Rattle.sail.specs.Lent.{Lent}
use Rattle.sail.specs.Sizes.{Sized}
use Rattle.sail.specs.declared.geometry.Geometry.{Geometry}
use Rattle.sail.specs.declared.table.Table.{Table}
use Rattle.sail_theory.specs.Calls.{terms_of, chunks_fault}
use Rattle.sail_need.specs.Weigh.{terms}
use Rattle.repair_theory.specs.Repair.{kept_of, kept_routes, repair_said}
use Rattle.repair_judge.specs.declared.Denied.{Denied}
use Rattle.repair_judge.specs.declared.Kept.{Kept}

-- a geometry, and a list of any size up to that of 4,096 records; and room for what is kept
pub record ListReady (g : Geometry) (s bytes : List ℕ) : Type 0 where
  pub valid : Valid g
  pub few : length s ≤ 32768
  pub room : length bytes ≡ 32768

-- the records of a list that are looked at, those of them that are kept, and their bytes
pub record Keeping (t : Table) (s bytes : List ℕ) (k : Kept) : Type 0 where
  pub looks : k.looked ≡ min t.count (length s / 8)
  pub keeps : k.kept ≡ length (kept_of s k.looked)
  pub input : take (k.kept * 8) bytes ≡ written (kept_of s k.looked) k.kept

-- what is kept of a list; and f is 7 or 8 if n2 and n3 chunks are too few for it, and else 0
pub record ListKept (t : Table) (s : List ℕ) (n2 n3 : ℕ) (bytes : List ℕ) (f : ℕ) (k : Kept) : Type 0 where
  pub keeping : Keeping t s bytes k
  pub fault : f ≡ chunks_fault (terms t.geometry (length s / 8) n2 n3) (kept_of s k.looked)

-- a refusal reports it all the same
abbrev pub KeptToo : Table → List ℕ → ℕ → ℕ → List ℕ → ℕ → Option Kept → Type 0
KeptToo t s n2 n3 bytes f None = ⊥
KeptToo t s n2 n3 bytes f (Some k) = ListKept t s n2 n3 bytes f k

-- of a list alone, of any size up to 32,768 bytes
abbrev pub ListJudged : Table → List ℕ → ℕ → ℕ → List ℕ → Result Kept Denied → Type 0
ListJudged t s n2 n3 bytes (Ok k) = ListKept t s n2 n3 bytes 0 k
ListJudged t s n2 n3 bytes (Err d) = KeptToo t s n2 n3 bytes (number_of d.why) d.kept

-- the sizes are right, and there are chunks enough for what is kept
pub record KeptIs (t : Table) (l : Lent) (bytes : List ℕ) (k : Kept) : Type 0 where
  pub sized : Sized t.geometry l
  pub keeping : Keeping t l.list bytes k
  pub enough : chunks_fault (terms_of t l) (kept_routes t l) ≡ 0

-- what is kept is reported exactly if the sizes are right
abbrev pub KeptIfSized : Table → Lent → List ℕ → Option Kept → Type 0
KeptIfSized t l bytes None = Sized t.geometry l → ⊥
KeptIfSized t l bytes (Some k) = Sized t.geometry l × Keeping t l.list bytes k

-- a refusal's number; and what is kept all the same, if the sizes are right
pub record RefusedIs (t : Table) (l : Lent) (bytes : List ℕ) (d : Denied) : Type 0 where
  pub says : repair_said t l ≡ refused (number_of d.why)
  pub kept : KeptIfSized t l bytes d.kept

abbrev pub Judged : Table → Lent → List ℕ → Result Kept Denied → Type 0
Judged t l bytes (Ok k) = KeptIs t l bytes k
Judged t l bytes (Err d) = RefusedIs t l bytes d
