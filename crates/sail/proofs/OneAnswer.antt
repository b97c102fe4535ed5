-- Two answers that the statement of lookup allows are the same.
use Rattle.std.specs.Prelude.{◌≡◌, ℕ, Result}
use Rattle.std.proofs.Common.{sym, ◌∙◌}
use Rattle.refusals.specs.declared.Refusal.{Refusal}
use Rattle.routes.specs.declared.found.Found.{Found}
use Rattle.routes.proofs.OneAnswer.{found-injective}
use Rattle.sail.specs.Lent.{Lent}
use Rattle.sail.specs.Contract.{MeetsLookup}
use Rattle.sail.specs.declared.table.Table.{Table}

pub one-answer-lookup : (t : Table) (l : Lent) (addr : ℕ) (x y : Result Found Refusal) → MeetsLookup t l addr x → MeetsLookup t l addr y → x ≡ y
one-answer-lookup t l addr x y p q = found-injective x y (p ∙ sym q)
