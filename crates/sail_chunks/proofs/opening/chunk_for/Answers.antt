-- `sail_chunks::opening::chunk_for`. The chunk that is to be opened, or the one that is there.
use Rattle.sail_chunks.proofs.ToOpen.{chunk-free, chunk-had}
use Rattle.sail_chunks.proofs.opening.chunk_for.Goals as goal

pub returns-then-opens : goal.returns-then-opens
returns-then-opens c = chunk-free c.args.opens c.args.new c.args.c c.requires c.if-opens.true

pub returns : goal.returns
returns c = chunk-had c.args.opens c.args.new c.args.c c.requires c.if-opens.false
