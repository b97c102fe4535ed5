-- The statement of withdraw, as a predicate on what was given, what is answered, the state beside it (both are r) and what is lent at exit (e). It is
-- the call's `ensures`, and that it leaves one answer is shown of it in proofs/OneAnswer.antt.
use Rattle.std.specs.Prelude.{ℕ}
use Rattle.sail.specs.Lent.{Lent}
use Rattle.sail.specs.declared.table.Table.{Table}
use Rattle.sail_theory.specs.Calls.{Ends, withdrawn}
use Rattle.sail_withdraw.specs.Answers.{means_withdraw}
use Rattle.sail_withdraw.specs.declared.answers.Withdrawn.{Withdrawn}

abbrev pub MeetsWithdraw : Table → Lent → ℕ → ℕ → Withdrawn → Lent → Type 0
MeetsWithdraw t l addr len r e = Ends (means_withdraw r.answer) r.table e (withdrawn t l addr len)
