-- Two outcomes that the statement of make allows are the same: its answer, and all that is lent.
use mathlib.Core.Path.{◌≡◌}
use Rattle.std.specs.Prelude.{Result}
use Rattle.refusals.specs.declared.Refusal.{Refusal}
use Rattle.sail.specs.Lent.{Lent}
use Rattle.sail.specs.declared.table.Table.{Table}
use Rattle.sail_theory.specs.After.{state_after}
use Rattle.sail_theory.proofs.calls.OneState.{one_end_state, one_state_plainly}
use Rattle.sail_make.specs.Answers.{means_made}
use Rattle.sail_make.specs.Contract.{MeetsMake}

-- two answers that are told the same and leave the same state are the same
pub made-injective : (t : Table) (x y : Result Table Refusal) → means_made x ≡ means_made y → state_after t x ≡ state_after t y → x ≡ y
made-injective t = one_state_plainly t

pub one-answer-make : (t : Table) (l : Lent) (x y : Result Table Refusal) (u v : Lent) → MeetsMake t l x u → MeetsMake t l y v → (x ≡ y) × (u ≡ v)
one-answer-make t l x y u v = one_end_state t means_made (made-injective t) x y u v _
