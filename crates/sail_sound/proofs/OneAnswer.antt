-- Two answers that the statement of the report allows are the same.
use mathlib.Core.Path.{◌≡◌, sym, ◌∙◌}
use Rattle.std.specs.Prelude.{Result}
use Rattle.refusals.specs.declared.Refusal.{Refusal}
use Rattle.sail.specs.Lent.{Lent}
use Rattle.sail.specs.declared.table.Table.{Table}
use Rattle.sail_sound.specs.Contract.{MeetsReport}
use Rattle.sail_sound.specs.declared.report.Standing.{Standing}
use Rattle.sail_sound.proofs.Reports.{reported-injective}

pub one-answer-report : (t : Table) (l : Lent) (x y : Result Standing Refusal) → MeetsReport t l x → MeetsReport t l y → x ≡ y
one-answer-report t l x y p q = reported-injective x y (p ∙ sym q)
