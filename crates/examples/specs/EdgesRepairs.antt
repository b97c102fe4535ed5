-- A repair (document 02, l), at its limits: of memory in which the list alone holds anything. What it says is given with the records dropped alone;
-- the cells that differ are in proofs/Repairs.antt.
use Rattle.std.specs.Prelude.{List, [], ◌∷◌, ◌++◌, ℕ, replicate}
use Rattle.routes.specs.Said.{Said, accepted, refused, refused_at}
use Rattle.sail.specs.Geometry.{standard_geo, small_geo}
use Rattle.sail.specs.Lent.{Lent, lent}
use Rattle.sail.specs.declared.geometry.Geometry.{Geometry}
use Rattle.sail.specs.declared.table.Table.{Table}
use Rattle.repair_theory.specs.Repair.{repaired}
use Rattle.examples.specs.Lines.{Line, ◌gives◌}
use Rattle.examples.specs.Blank.{geo, Lengths, lengths}
use Rattle.examples.specs.EdgesInputs.{rec}

-- these bytes and zeros after them
abbrev pub bytes : List ℕ → Lengths → List ℕ
bytes xs n = xs ++ replicate n.list 0

-- the list holds these bytes, and all else is 0
unfoldable pub found : List ℕ → Lengths → Lent
found xs n =
    lent (bytes xs n) (replicate n.first 0) (replicate n.second 0) (replicate n.third 0)
    (replicate n.own2 0) (replicate n.own3 0) (replicate n.long1 0) (replicate n.long2 0)

abbrev pub counting : Geometry → ℕ → Table
counting g count = record { geometry = g; count = count }

-- the first number alone
abbrev pub alone : Said → Said
alone (accepted []) = accepted []
alone (accepted (d ∷ vs)) = accepted (d ∷ [])
alone (refused n) = refused n
alone (refused_at n k) = refused_at n k

-- a geometry, a route count, the bytes of the list, and what is lent, with the zeros after these bytes
pub record Asked : Type 0 where
  pub geometry : Geometry
  pub count : ℕ
  pub list : List ℕ
  pub lent : Lengths

abbrev pub repair : Geometry → ℕ → List ℕ → Lengths → Asked
repair g count xs n = record { geometry = g; count = count; list = xs; lent = n }

unfoldable pub answer : Asked → Said
answer q = alone (repaired (counting q.geometry q.count) (found q.list q.lent)).said

-- no chunks; no third chunks; one of either
abbrev none : Lengths
none = lengths 0 65536 0 0 0 0

abbrev second : Lengths
second = lengths 0 65536 256 0 1 0

abbrev both : Lengths
both = lengths 0 65536 256 256 1 1

abbrev wrong : Lengths
wrong = lengths 0 65535 0 0 0 0

abbrev ten : List ℕ
ten = rec 10 0 0 0 8 0 20

unfoldable pub edges : List (Line Asked)
edges =
    -- 1, and 1 before 2; 2, and 2 before 7
    (repair (geo 16 27) 1 ten none gives refused 1)
    ∷ (repair (geo 16 27) 1 ten wrong gives refused 1)
    ∷ (repair standard_geo 1 ten wrong gives refused 2)
    ∷ (repair standard_geo 1 (rec 10 1 2 0 24 0 44) wrong gives refused 2)
    ∷ (repair standard_geo 1 ten none gives accepted (0 ∷ []))
    -- 7 for a kept record longer than p1, 7 before 8, 8 for one longer than p2; and as much as is needed
    ∷ (repair standard_geo 1 (rec 10 1 0 0 16 0 31) none gives accepted (0 ∷ []))
    ∷ (repair standard_geo 1 (rec 10 1 0 0 17 0 31) none gives refused 7)
    ∷ (repair standard_geo 1 (rec 10 1 2 128 25 0 57) none gives refused 7)
    ∷ (repair standard_geo 1 (rec 10 1 2 0 24 0 44) second gives accepted (0 ∷ []))
    ∷ (repair standard_geo 1 (rec 10 1 2 0 25 0 44) second gives refused 8)
    ∷ (repair standard_geo 1 (rec 10 1 2 0 25 0 44) both gives accepted (0 ∷ []))
    ∷ (repair small_geo 1 (rec 10 16 0 0 12 0 31) (lengths 0 4096 0 0 0 0) gives accepted (0 ∷ []))
    ∷ (repair small_geo 1 (rec 10 16 0 0 13 0 31) (lengths 0 4096 0 0 0 0) gives refused 7)
    -- "over the kept records": one that is dropped needs no chunk, and neither does one that is not looked at
    ∷ (repair standard_geo 1 (rec 10 1 2 0 24 0 0) none gives accepted (1 ∷ []))
    ∷ (repair standard_geo 2 (rec 10 2 0 0 16 0 20 ++ rec 10 1 2 0 24 0 44) none gives accepted (1 ∷ []))
    ∷ (repair standard_geo 0 (rec 10 1 2 0 24 0 44) none gives accepted (0 ∷ []))
    -- two kept records of one first cell need one chunk, of two cells two
    ∷ (repair standard_geo 2 (rec 10 1 2 0 24 0 44 ++ rec 10 1 3 0 24 0 45) second gives accepted (0 ∷ []))
    ∷ (repair standard_geo 2 (rec 10 1 2 0 24 0 44 ++ rec 10 2 3 0 24 0 45) second gives refused 7)
    -- "valid": a length of 32 and of 33, bits after the length, hops of 0, 1, 32,767 and 32,768, marks of 1 and 2
    ∷ (repair standard_geo 1 (rec 255 255 255 255 32 0 9) both gives accepted (0 ∷ []))
    ∷ (repair standard_geo 1 (rec 255 255 255 255 33 0 9) both gives accepted (1 ∷ []))
    ∷ (repair standard_geo 1 (rec 255 255 255 255 31 0 9) both gives accepted (1 ∷ []))
    ∷ (repair standard_geo 1 (rec 10 0 0 0 8 0 0) none gives accepted (1 ∷ []))
    ∷ (repair standard_geo 1 (rec 10 0 0 0 8 0 1) none gives accepted (0 ∷ []))
    ∷ (repair standard_geo 1 (rec 10 0 0 0 8 0 32767) none gives accepted (0 ∷ []))
    ∷ (repair standard_geo 1 (rec 10 0 0 0 8 0 32768) none gives accepted (1 ∷ []))
    ∷ (repair standard_geo 1 (rec 10 0 0 0 8 1 20) none gives accepted (0 ∷ []))
    ∷ (repair standard_geo 1 (rec 10 0 0 0 8 2 20) none gives accepted (1 ∷ []))
    -- "larger than the last one kept": the same again, a longer one, a smaller one; and one that is larger than a dropped one alone
    ∷ (repair standard_geo 2 (ten ++ ten) none gives accepted (1 ∷ []))
    ∷ (repair standard_geo 2 (ten ++ rec 10 0 0 0 9 0 21) none gives accepted (0 ∷ []))
    ∷ (repair standard_geo 2 (ten ++ rec 10 0 0 0 7 0 21) none gives accepted (1 ∷ []))
    ∷ (repair standard_geo 3 (ten ++ (rec 0 0 0 0 0 0 6 ++ rec 1 0 0 0 8 0 7)) none gives accepted (2 ∷ []))
    -- "up to the state's route count, or to the end of the room if that is less"
    ∷ (repair standard_geo 1 (ten ++ ten) none gives accepted (0 ∷ []))
    ∷ (repair standard_geo 3 (ten ++ ten) none gives accepted (1 ∷ []))
    ∷ (repair standard_geo 9 ten (lengths 56 65536 0 0 0 0) gives accepted (7 ∷ []))
    ∷ (repair standard_geo 4294967295 [] none gives accepted (0 ∷ []))
    ∷ []
