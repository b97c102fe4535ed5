-- The statement of load, as a predicate on what was given, what is answered (r is the new state, or why there is none) and what is lent at exit (e).
-- It is the call's `ensures`, and that it leaves one answer is shown of it in proofs/OneAnswer.antt.
use Rattle.std.specs.Prelude.{List, ℕ, Result}
use Rattle.refusals.specs.declared.Refused.{Refused}
use Rattle.sail.specs.Lent.{Lent}
use Rattle.sail.specs.declared.table.Table.{Table}
use Rattle.sail_theory.specs.After.{state_after}
use Rattle.sail_theory.specs.Calls.{Ends, loaded}
use Rattle.sail_load.specs.Answers.{means_loaded}

abbrev pub MeetsLoad : Table → Lent → List ℕ → Result Table Refused → Lent → Type 0
MeetsLoad t l input r e = Ends (means_loaded r) (state_after t r) e (loaded t l input)
