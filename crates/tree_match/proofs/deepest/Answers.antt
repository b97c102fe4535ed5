-- The four tests of the code are those of `deepest_of`, in its order: each return follows the misses before it.
use Rattle.tree_image.proofs.Walks.{try-hit, try-miss, deepest-is}
use Rattle.tree_match.proofs.deepest.Goals as goal

pub returns-then-is_set-clause-is : goal.returns-then-is_set-clause-is
returns-then-is_set-clause-is c = deepest-is _ _ _ (try-hit _ _ _ _ c.is_set.ensures c.if-is_set.true)

pub returns-then-is_set-2-clause-is : goal.returns-then-is_set-2-clause-is
returns-then-is_set-2-clause-is c =
    deepest-is _ _ _ (try-miss _ _ _ _ _ c.is_set.ensures c.if-is_set.false (try-hit _ _ _ _ c.is_set-2.ensures c.if-is_set-2.true))

pub returns-then-is_set-3-clause-is : goal.returns-then-is_set-3-clause-is
returns-then-is_set-3-clause-is c =
    deepest-is _ _ _ (try-miss _ _ _ _ _ c.is_set.ensures c.if-is_set.false
    (try-miss _ _ _ _ _ c.is_set-2.ensures c.if-is_set-2.false
    (try-hit _ _ _ _ c.is_set-3.ensures c.if-is_set-3.true)))

pub returns-clause-is : goal.returns-clause-is
returns-clause-is c =
    deepest-is _ _ _ (try-miss _ _ _ _ _ c.is_set.ensures c.if-is_set.false
    (try-miss _ _ _ _ _ c.is_set-2.ensures c.if-is_set-2.false
    (try-miss _ _ _ _ _ c.is_set-3.ensures c.if-is_set-3.false c.own_bit.ensures.is)))
