-- The demands of a repair (document 02, request l). It serves tables of any contents; what it leaves is a sound table, from which demand 3 goes on.
use mathlib.Core.Path.{◌≡◌}
use mathlib.Core.Logic.{◌↔◌}
use mathlib.Core.Bool.{true, false}
use mathlib.Core.List.{List}
use Prim.Native.Nat.{ℕ, ◌^◌, ◌<◌}
use Rattle.routes.specs.Said.{Said, accepts}
use Rattle.routes.proofs.Judged.{exactly}
use Rattle.standing.specs.Standing.{route_at}
use Rattle.sail.specs.Lent.{Lent}
use Rattle.sail.specs.Sound.{Sound, standing, cells_read}
use Rattle.sail.specs.Walk.{lookup_said}
use Rattle.sail.specs.declared.table.Table.{Table}
use Rattle.sail_theory.specs.Calls.{loaded}
use Rattle.sail_theory.specs.Facts.{SameSize}
use Rattle.sail_theory.specs.CallRuns.{Call, held_by_calls, Carries, AsFresh}
use Rattle.sail_theory.proofs.calls.Refusals.{leaves}
use Rattle.repair_theory.specs.Repair.{kept_routes, repaired}
use Rattle.repair_theory.specs.Cases.{Repair}
use Rattle.repair_theory.specs.Onwards.{onwards, as_run}
use Rattle.repair_theory.proofs.Judged.{repair-judged, repair-only}
use Rattle.repair_theory.proofs.Repairs as repairs
use Rattle.repair_theory.proofs.Repairs.{repair-said, repair-holds}
use Rattle.repair_theory.proofs.Onwards as onwards-on
use Rattle.repair.specs.Contract.{MeetsRepair}
use Rattle.repair.specs.declared.repair.RepairedTable.{RepairedTable}
use Rattle.repair.proofs.OneAnswer as answer
use Rattle.standing.specs.Served.{Served}
use Rattle.demands.proofs.Demand2.{sail-serves}

module _ (t : Table) (l : Lent) where
  -- Demand 1. "Carries its number": 1, 2, then 7, 8 by what the kept records need; and else the four numbers
  pub refused-number-repair : (s : Said) → ((repaired t l).said ≡ s) ↔ Repair t l s
  refused-number-repair = exactly (Repair t l) _ _ (repair-said t l) (repair-judged t l) (repair-only t l)

  -- "The caller's state and buffers stay exactly as they were."
  pub refused-leaves-all-repair : accepts (repaired t l).said ≡ false → ((repaired t l).table ≡ t) × ((repaired t l).lent ≡ l)
  refused-leaves-all-repair e = leaves _ _ t l (repairs.refused-leaves-all-repair t l e)

  -- "Show that no second answer would satisfy it."
  pub one-answer-repair : (x y : RepairedTable) (u v : Lent) → MeetsRepair t l x u → MeetsRepair t l y v → (x ≡ y) × (u ≡ v)
  one-answer-repair = answer.one-answer-repair t l

  module _ (e : accepts (repaired t l).said ≡ true) where
    -- Demand 2: every address is then served by the kept records, the longest that covers it
    pub repair-serves : (a : ℕ) → a < 2 ^ 32
        → Served (kept_routes t l) a (cells_read t.geometry (kept_routes t l) a) (lookup_said (repaired t l).table (repaired t l).lent a)
    repair-serves a b =
        let h = repair-holds t l e in
        rw (h.geometry, h.routes) at (sail-serves (repaired t l).table (repaired t l).lent h.sound a b)

    -- Demand 3 goes on from a repaired table: after any calls it is sound,
    pub repair-run-sound : (cs : List Call) → Sound (onwards (repaired t l) cs).table (onwards (repaired t l) cs).lent
    repair-run-sound = onwards-on.onwards-sound t l e

    -- which routes stand is worked out from the kept records and the accepted calls alone,
    pub repair-run-standing : (cs : List Call) (k : ℕ)
        → route_at k (standing (onwards (repaired t l) cs).table (onwards (repaired t l) cs).lent) ≡ held_by_calls t l (as_run t l cs) k
    repair-run-standing = onwards-on.onwards-standing t l e

    -- and every address is served as by a table freshly loaded with these, in as many chunks.
    pub repair-run-as-fresh : (cs : List Call) (u : Table) (v : Lent) → u.geometry ≡ t.geometry → SameSize l v
        → (input : List ℕ) → Carries input (standing (onwards (repaired t l) cs).table (onwards (repaired t l) cs).lent)
        → AsFresh (onwards (repaired t l) cs).table (onwards (repaired t l) cs).lent (loaded u v input)
    repair-run-as-fresh = onwards-on.onwards-as-fresh t l e
