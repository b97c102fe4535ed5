-- Which records a repair looks at and which of them it keeps, said of each record by itself.
use mathlib.Core.List.{List, [], ◌∷◌, ◌++◌, Memᴰ}
use Rattle.std.specs.Prelude.{◌≡◌, ℕ, suc, ◌≤◌, ◌<◌}
use Rattle.routes.specs.Route.{key, Fine}
use Rattle.routes.specs.Record.{record_at}
use Rattle.routes.specs.declared.Route.{Route}
use Rattle.sail.specs.Lent.{Lent}
use Rattle.sail.specs.declared.table.Table.{Table}
use Rattle.sail_theory.specs.Render.{room_of}
use Rattle.repair_theory.specs.Repair.{kept_of, looked}

-- "It looks at the records up to the state's route count, or to the end of the room if that is less"
pub record Looks (t : Table) (l : Lent) : Type 0 where
  pub to_count : t.count ≤ room_of l → looked t l ≡ t.count
  pub to_room : room_of l ≤ t.count → looked t l ≡ room_of l
  pub inside : looked t l ≤ room_of l

-- larger than all that are kept of the first n records
abbrev pub Largest : List ℕ → ℕ → Route → Type 0
Largest s n x = (r : Route) → Memᴰ r (kept_of s n) → key r < key x

-- Record n is kept exactly where it is valid by itself and larger than every one kept before it, and then it is the last that is. Of no record
-- none is kept; so the kept records are told by this alone.
pub record Each (s : List ℕ) (n : ℕ) : Type 0 where
  pub takes : Fine (record_at s n) → Largest s n (record_at s n) → kept_of s (suc n) ≡ kept_of s n ++ (record_at s n ∷ [])
  pub drops : (Fine (record_at s n) → Largest s n (record_at s n) → ⊥) → kept_of s (suc n) ≡ kept_of s n
