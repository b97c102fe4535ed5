-- The one test of the code is that of `try_bit`.
use mathlib.Core.Path.{refl}
use Rattle.tree_image.proofs.Walks.{try-hit, try-miss}
use Rattle.tree_match.proofs.own_bit.Goals as goal

pub returns-then-is_set-clause-is : goal.returns-then-is_set-clause-is
returns-then-is_set-clause-is c = try-hit _ _ _ _ c.is_set.ensures c.if-is_set.true

pub returns-clause-is : goal.returns-clause-is
returns-clause-is c = try-miss _ _ _ _ _ c.is_set.ensures c.if-is_set.false refl
