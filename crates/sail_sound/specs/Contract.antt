-- The statement of the report, as a predicate on what was given and what is answered. It is the call's `ensures`, and that it leaves one answer is
-- shown of it in proofs/OneAnswer.antt.
use Rattle.std.specs.Prelude.{◌≡◌, Result}
use Rattle.sail.specs.Lent.{Lent}
use Rattle.sail.specs.declared.table.Table.{Table}
use Rattle.sail_theory.specs.Calls.{reported}
use Rattle.sail_sound.specs.Report.{means_reported}
use Rattle.refusals.specs.declared.Refusal.{Refusal}
use Rattle.sail_sound.specs.declared.report.Standing.{Standing}

abbrev pub MeetsReport : Table → Lent → Result Standing Refusal → Type 0
MeetsReport t l r = means_reported r ≡ reported t l
