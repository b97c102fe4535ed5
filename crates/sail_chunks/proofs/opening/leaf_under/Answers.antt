-- `sail_chunks::opening::leaf_under`. Whether a prefix longer than p has a leaf in its cell of level p.
use Rattle.sail_chunks.proofs.ToOpen.{leaf-longer, leaf-shorter}
use Rattle.sail_chunks.proofs.opening.leaf_under.Goals as goal

pub returns-then-p-len : goal.returns-then-p-len
returns-then-p-len c = leaf-longer c.args.v c.args.p c.args.len c.if-p-len.true

pub returns : goal.returns
returns c = leaf-shorter c.args.v c.args.p c.args.len c.if-p-len.false
