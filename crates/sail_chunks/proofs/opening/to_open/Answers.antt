-- `sail_chunks::opening::to_open`. The cells of the prefix are followed; a chunk is to be opened where one of them is a leaf and the prefix is
-- longer than its level.
use borrow.Author.Rules.{rules}
use Rattle.sail_chunks.proofs.ToOpen.{named-first, opens-is}
use Rattle.sail_chunks.proofs.opening.to_open.Goals as goal

pub overflow_sub-result : goal.overflow_sub-result
overflow_sub-result c = named-first _ _ _ _ _ _ _ c.follow-v.ensures

pub returns : goal.returns
returns c =
    opens-is _ _ _ _ _ _ _ c.follow-v.ensures c.requires.valid _ _ c.from-l.ensures (search rules) _ _
    c.leaf_under-two.ensures
    c.leaf_under-three.ensures
