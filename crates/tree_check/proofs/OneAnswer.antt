-- Two answers that the statement of the test allows are the same.
use mathlib.Core.Path.{◌≡◌, sym, ◌∙◌}
use mathlib.Core.List.{List}
use Prim.Native.Nat.{ℕ}
use Rattle.tree_check.specs.Contract.{MeetsTreeTest}
use Rattle.std.specs.Prelude.{Result}
use Rattle.refusals.specs.declared.Refusal.{Refusal}
use Rattle.tree_image.specs.declared.Used.{Used}
use Rattle.tree_image.proofs.Useds.{used-plainly-injective}

pub one-answer-tree-test : (words hops : List ℕ) (x y : Result Used Refusal) → MeetsTreeTest words hops x → MeetsTreeTest words hops y → x ≡ y
one-answer-tree-test words hops x y p q = used-plainly-injective x y (p ∙ sym q)
