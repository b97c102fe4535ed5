-- Document 01's list A with one byte made another, and which of its records a repair keeps. A record is told by its hop: 6, 20, 31, 44, 57.
use Rattle.std.specs.Prelude.{List, [], ◌∷◌, ◌++◌, map, ℕ, ◌+◌, ◌*◌, set, replicate}
use Rattle.routes.specs.ListA.{list_a}
use Rattle.repair_theory.specs.Repair.{kept_of}

-- list A in a room of 8 records
abbrev pub room_a : List ℕ
room_a = list_a ++ replicate 24 0

-- byte `byte` of record `row` is made `value`, so many records are looked at, and these are kept
pub record Damage : Type 0 where
  pub row : ℕ
  pub byte : ℕ
  pub value : ℕ
  pub looks : ℕ
  pub hops : List ℕ

abbrev pub damage : ℕ → ℕ → ℕ → ℕ → List ℕ → Damage
damage row byte value looks hops = record { row = row; byte = byte; value = value; looks = looks; hops = hops }

unfoldable pub list_of : Damage → List ℕ
list_of d = set room_a (d.row * 8 + d.byte) d.value

unfoldable pub kept_hops : Damage → List ℕ
kept_hops d = map (λ r. r.hop) (kept_of (list_of d) d.looks)

unfoldable pub damages : List Damage
damages =
    -- as it is: all
    damage 0 0 0 5 (6 ∷ 20 ∷ 31 ∷ 44 ∷ 57 ∷ [])
    -- the count too large: what follows is no record, for its hop is 0
    ∷ damage 0 0 0 8 (6 ∷ 20 ∷ 31 ∷ 44 ∷ 57 ∷ [])
    -- the count too small, and none at all
    ∷ damage 0 0 0 3 (6 ∷ 20 ∷ 31 ∷ [])
    ∷ damage 0 0 0 0 []
    -- a length of 33; a bit set after the length; a hop of 0; a hop over 32,767; a mark of 2
    ∷ damage 2 4 33 5 (6 ∷ 20 ∷ 44 ∷ 57 ∷ [])
    ∷ damage 2 3 1 5 (6 ∷ 20 ∷ 44 ∷ 57 ∷ [])
    ∷ damage 3 7 0 5 (6 ∷ 20 ∷ 31 ∷ 57 ∷ [])
    ∷ damage 3 6 128 5 (6 ∷ 20 ∷ 31 ∷ 57 ∷ [])
    ∷ damage 4 5 2 5 (6 ∷ 20 ∷ 31 ∷ 44 ∷ [])
    -- a mark of 1 is no fault, and neither is another hop
    ∷ damage 4 5 1 5 (6 ∷ 20 ∷ 31 ∷ 44 ∷ 57 ∷ [])
    ∷ damage 3 7 45 5 (6 ∷ 20 ∷ 31 ∷ 45 ∷ 57 ∷ [])
    -- 255.0.0.0/8 for 10.0.0.0/8: valid and larger than the last one kept, so it is kept, and shuts out all that follow
    ∷ damage 1 0 255 5 (6 ∷ 20 ∷ [])
    -- 9.1.0.0/16 for 10.1.0.0/16: valid, and not larger than the last one kept; those after it are measured by that one
    ∷ damage 2 0 9 5 (6 ∷ 20 ∷ 44 ∷ 57 ∷ [])
    ∷ []
