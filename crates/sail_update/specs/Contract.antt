-- The statement of update, as a predicate on what was given, what is answered, the state beside it (both are r) and what is lent at exit (e). It is
-- the call's `ensures`, and that it leaves one answer is shown of it in proofs/OneAnswer.antt.
use Rattle.std.specs.Prelude.{ℕ, List}
use Rattle.sail.specs.Lent.{Lent}
use Rattle.sail.specs.declared.table.Table.{Table}
use Rattle.sail_theory.specs.Calls.{Ends}
use Rattle.update_theory.specs.Update.{updated}
use Rattle.sail_update.specs.Answers.{means_update}
use Rattle.sail_update.specs.declared.answers.Updated.{Updated}

abbrev pub MeetsUpdate : Table → Lent → List ℕ → List ℕ → ℕ → Updated → Lent → Type 0
MeetsUpdate t l withdrawn reach hop r e = Ends (means_update r.answer) r.table e (updated t l withdrawn reach hop)
