-- The statement of make, as a predicate on what was given, what is answered (r is the new state, or why there is none) and what is lent at exit (e).
-- It is the call's `ensures`, and that it leaves one answer is shown of it in proofs/OneAnswer.antt.
use Rattle.std.specs.Prelude.{Result}
use Rattle.refusals.specs.declared.Refusal.{Refusal}
use Rattle.sail.specs.Lent.{Lent}
use Rattle.sail.specs.declared.table.Table.{Table}
use Rattle.sail_theory.specs.After.{state_after}
use Rattle.sail_theory.specs.Calls.{Ends, made}
use Rattle.sail_make.specs.Answers.{means_made}

abbrev pub MeetsMake : Table → Lent → Result Table Refusal → Lent → Type 0
MeetsMake t l r e = Ends (means_made r) (state_after t r) e (made t l)
