-- The statement of announce, as a predicate on what was given, what is answered, the state beside it (both are r) and what is lent at exit (e). It is
-- the call's `ensures`, and that it leaves one answer is shown of it in proofs/OneAnswer.antt.
use Rattle.std.specs.Prelude.{ℕ}
use Rattle.sail.specs.Lent.{Lent}
use Rattle.sail.specs.declared.table.Table.{Table}
use Rattle.sail_theory.specs.Calls.{route, Ends, announced}
use Rattle.sail_announce.specs.Answers.{means_announce}
use Rattle.sail_announce.specs.declared.answers.Announced.{Announced}

abbrev pub MeetsAnnounce : Table → Lent → ℕ → ℕ → ℕ → ℕ → Announced → Lent → Type 0
MeetsAnnounce t l addr len hop mark r e = Ends (means_announce r.answer) r.table e (announced t l (route addr len hop mark))
