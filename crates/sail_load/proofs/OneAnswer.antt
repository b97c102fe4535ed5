-- Two outcomes that the statement of load allows are the same: its answer, and all that is lent.
use mathlib.Core.List.{List}
use mathlib.Core.Path.{◌≡◌}
use Prim.Native.Nat.{ℕ}
use Rattle.std.specs.Prelude.{Result}
use Rattle.refusals.specs.declared.Refused.{Refused}
use Rattle.sail.specs.Lent.{Lent}
use Rattle.sail.specs.declared.table.Table.{Table}
use Rattle.sail_theory.proofs.calls.OneState.{one_end_state, one_state}
use Rattle.sail_load.specs.Answers.{means_loaded}
use Rattle.sail_load.specs.Contract.{MeetsLoad}

pub one-answer-load : (t : Table) (l : Lent) (input : List ℕ) (x y : Result Table Refused) (u v : Lent) → MeetsLoad t l input x u →
    MeetsLoad t l input y v → (x ≡ y) × (u ≡ v)
one-answer-load t l input x y u v = one_end_state t means_loaded (one_state t) x y u v _
