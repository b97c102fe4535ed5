-- A table put right after a memory fault, for every state and every contents. "A repair that reads the list, keeps each record that is valid and
-- larger than the last one kept, and drops the others. It loads what was kept and reports the records dropped and the cells that differ from
-- before, for each of the three arrays."
use Rattle.std.specs.Prelude.{Bool, ◌&&◌, not, cond, List, [], ◌∷◌, ℕ, zero, suc, ◌-◌, min, eqb, leb, length, get_or}
use Rattle.bits.specs.Count.{count}
use Rattle.routes.specs.Route.{key}
use Rattle.routes.specs.Record.{record_at, written}
use Rattle.routes.specs.Input.{route_fault}
use Rattle.routes.specs.Said.{Said, accepted}
use Rattle.routes.specs.declared.Route.{Route}
use Rattle.sail.specs.Lent.{Lent}
use Rattle.sail.specs.Sizes.{sizes_fault}
use Rattle.sail.specs.declared.table.Table.{Table}
use Rattle.sail_theory.specs.Render.{room_of}
use Rattle.sail_theory.specs.Calls.{terms_of, chunks_fault, or_say, Out, outcome, loaded}

-- record k is valid by itself (not 3, 4 or 10), and its key is at least `least`
abbrev pub keeps : List ℕ → ℕ → ℕ → Bool
keeps s least k = eqb (route_fault (record_at s k)) 0 && leb least (key (record_at s k))

-- what is kept of d records from k on, where a key must be at least `least`: 1 + the key of the last one kept, 0 where none is
unfoldable pub kept_from : List ℕ → ℕ → ℕ → ℕ → List Route
kept_from s least k zero = []
kept_from s least k (suc d) =
    cond (keeps s least k)
    (record_at s k ∷ kept_from s (suc (key (record_at s k))) (suc k) d)
    (kept_from s least (suc k) d)

-- of the first n records
abbrev pub kept_of : List ℕ → ℕ → List Route
kept_of s n = kept_from s 0 0 n

-- "It looks at the records up to the state's route count, or to the end of the room if that is less"
unfoldable pub looked : Table → Lent → ℕ
looked t l = min t.count (room_of l)

unfoldable pub kept_routes : Table → Lent → List Route
kept_routes t l = kept_of l.list (looked t l)

-- the kept records as an input
abbrev pub kept_bytes : Table → Lent → List ℕ
kept_bytes t l = written (kept_routes t l) (length (kept_routes t l))

-- "It loads what was kept"
abbrev pub reloaded : Table → Lent → Out
reloaded t l = loaded t l (kept_bytes t l)

-- at how many places the second list holds something else than the first
unfoldable pub differ : List ℕ → List ℕ → ℕ
differ xs ys = count (λ q. not (eqb (get_or xs q 0) (get_or ys q 0))) (length xs)

-- records dropped of those looked at
abbrev pub dropped : Table → Lent → ℕ
dropped t l = looked t l - length (kept_routes t l)

-- "the records dropped and the cells that differ from before, for each of the three arrays"
abbrev pub changes : Table → Lent → List ℕ
changes t l =
    dropped t l
    ∷ differ l.first (reloaded t l).lent.first
    ∷ differ l.second (reloaded t l).lent.second
    ∷ differ l.third (reloaded t l).lent.third
    ∷ []

-- "Refusals: 1, 2, then 7, 8 over the kept records"
unfoldable pub repair_said : Table → Lent → Said
repair_said t l =
    or_say (sizes_fault t.geometry l)
    (or_say (chunks_fault (terms_of t l) (kept_routes t l))
    (accepted (changes t l)))

unfoldable pub repaired : Table → Lent → Out
repaired t l = outcome (repair_said t l) t l (reloaded t l).table (reloaded t l).lent
