use borrow.Author.Count.{below_none, below_more}
use borrow.Author.Rules.{rules}
use Rattle.sail_chunks.proofs.ChunkOwners.{named_here, named-nowhere}
use Rattle.sail_chunks.proofs.chunks.chunk_named.Goals as goal

pub loop-c-init : goal.loop-c-init
loop-c-init c = below_none _

pub returns-then-own-c : goal.returns-then-own-c
returns-then-own-c c = named_here c.args.own.now _ c.loop-c.c (search rules) c.loop-c.invariant c.if-own-c.true

pub loop-c-preserved : goal.loop-c-preserved
loop-c-preserved c = below_more _ _ c.loop-c.invariant c.if-own-c.false

pub returns : goal.returns
returns c = named-nowhere c.args.own.now _ (λ j l. c.loop-c.invariant j (search rules))
