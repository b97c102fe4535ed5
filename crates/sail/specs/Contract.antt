-- The statement of lookup, as a predicate on what was given and what is answered. It is the call's `ensures`, and that it leaves one answer is
-- shown of it in proofs/OneAnswer.antt.
use Rattle.std.specs.Prelude.{◌≡◌, ℕ, Result}
use Rattle.sail.specs.Lent.{Lent}
use Rattle.sail.specs.Walk.{lookup_said}
use Rattle.routes.specs.Answers.{means_found}
use Rattle.routes.specs.declared.found.Found.{Found}
use Rattle.refusals.specs.declared.Refusal.{Refusal}
use Rattle.sail.specs.declared.table.Table.{Table}

abbrev pub MeetsLookup : Table → Lent → ℕ → Result Found Refusal → Type 0
MeetsLookup t l addr r = means_found r ≡ lookup_said t l addr
