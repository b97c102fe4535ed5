-- Two answers that the statement of a lookup allows are the same.
use Rattle.std.specs.Prelude.{◌≡◌, ℕ, List, Result}
use Rattle.std.proofs.Common.{sym, ◌∙◌}
use Rattle.refusals.specs.declared.Refusal.{Refusal}
use Rattle.routes.specs.declared.found.Found.{Found}
use Rattle.routes.proofs.OneAnswer.{found-injective}
use Rattle.tree.specs.Contract.{MeetsTreeLookup}

pub one-answer-tree-lookup : (words hops : List ℕ) (addr : ℕ) (x y : Result Found Refusal) → MeetsTreeLookup words hops addr x
    → MeetsTreeLookup words hops addr y → x ≡ y
one-answer-tree-lookup words hops addr x y p q = found-injective x y (p ∙ sym q)
